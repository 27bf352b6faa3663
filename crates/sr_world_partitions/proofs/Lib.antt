mod Parted
mod Published
mod Received
mod Going
mod Keys
