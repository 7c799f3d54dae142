mod Holes
mod Routes
