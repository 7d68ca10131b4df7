mod Lent
mod Rest
