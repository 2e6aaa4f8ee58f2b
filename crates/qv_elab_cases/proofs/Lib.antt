mod Closing
mod Parameters
mod Keeping
