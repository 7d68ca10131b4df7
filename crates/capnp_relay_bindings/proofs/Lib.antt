mod Places
mod Around
