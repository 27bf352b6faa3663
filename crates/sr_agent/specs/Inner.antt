pub mod Steps
pub mod PartnerMails
pub mod Sharing
pub mod Coming
pub mod Restarting
