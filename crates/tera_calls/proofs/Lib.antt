mod Accepting
mod Answered
mod Ended
mod InARow
mod Refusals
