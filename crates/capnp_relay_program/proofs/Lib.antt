mod Digits
mod MadeCalls
mod AskedExamples
mod Asking
mod Telling
mod Running
mod Tables
mod Written
