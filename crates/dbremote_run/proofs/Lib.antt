mod Cases
mod Completing
mod Demonstrations
mod Ended
mod Partners
mod Statuses
