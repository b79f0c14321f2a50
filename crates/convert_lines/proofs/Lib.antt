mod Clean
mod Printed
mod Refused
mod Kept
