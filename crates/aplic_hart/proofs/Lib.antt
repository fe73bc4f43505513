mod Harts
mod Left
