-- Words of a text: runs of bytes parted by a set of others.
pub mod Runs
pub mod Scan
pub mod Words
