mod Blanks
mod Parts
mod Made
