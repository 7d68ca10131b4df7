mod Standing
mod OneCall
mod Levels
mod Tested
mod InTurn
mod AtRoot
mod Stopped
