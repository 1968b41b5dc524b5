-- Number 12, OUTSIDE: the neighbours first, then the scan.
pub mod Scannable
