pub mod Place
pub mod Scanners
pub mod Machines
pub mod Scanned
