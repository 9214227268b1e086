-- The theorems, by file. Over the definitions on lists, under any limits k:
--     Keeps     each operation that goes through leaves a sound state
--     Every     every state met is sound, from empty and from any sound state (demand 3)
--     Room      NoRoom exactly where the same operation without limits is done and ends over a limit
--     Links     the holder's walk ends, its count is the number of entries passed, at most 128 (127 for a stored record)
--     Orders    entries go in any order to one result
--     Carried   what is true of every lock and kept by the ways in which operations make locks stays true of every lock
--     Closed    a tree is closed under parents; overlap is symmetric; the empty set overlaps no set
-- On the state, as the code's contracts say it:
--     Again     the closing check's Invariant is never answered; what the test accepts it accepts again (demand 3), and so
--               the five operations that make no closing check need none
--     Lowest    what a read finds has the lowest id of the locks that fit
--     Dropping  the same of delete_defunct, which no feed asks for
--     Agree     on a sound state all eight in one form: answer, removed locks, next state (demand 2)
--     Spots     7 is told of the calls of before, with the lock in the way and the lowest ECU that both cover (C-13)
--     Bench     the bench sheet's twelve starred rows
-- The other files have what these are made of.
pub mod Passed
pub mod Core
pub mod Going
pub mod Keeping
pub mod Removal
pub mod Checked
pub mod Keeps
pub mod Every
pub mod Answered
pub mod Closing
pub mod Again
pub mod Lowest
pub mod Dropping
pub mod Agree
pub mod Room
pub mod Links
pub mod Orders
pub mod Closed
pub mod Carried
pub mod Bench
pub mod Spots
