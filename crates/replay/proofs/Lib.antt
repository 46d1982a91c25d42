mod Bytes
mod Words
