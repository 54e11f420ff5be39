mod Beginnings
mod Keys
mod Lists
mod Numbers
mod Powers
mod Vectors
