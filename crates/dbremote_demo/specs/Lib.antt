pub mod Courses
pub mod LeftAlone
pub mod GoodWorlds
pub mod Demonstrations
pub mod Runs
pub mod Scripts
pub mod Inner
