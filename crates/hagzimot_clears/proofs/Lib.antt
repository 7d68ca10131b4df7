mod SameCalls
mod Cleared
