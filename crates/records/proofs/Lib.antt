mod Compares
mod Floats
