mod Listings
mod Rising
