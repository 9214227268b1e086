-- What a host sees at the library's door. Fits: the numbers of locks within their fields. Ranged: kept so by every operation.
-- Asking: what a feed's bytes ask for is within them. Typed: the round trip's range conditions hold of every spare that an
-- accepted image holds or a step leaves. Doors: the theorems on cablegorse_apply, chains of it, and
-- cablegorse_delete_defunct. Conflicts: what cablegorse_apply tells by 7. Boards: cablegorse_apply_board.
-- Own: cablegorse_perform. Ends: a chain of it, and a spare that follows.
pub mod Fits
pub mod Ranged
pub mod Asking
pub mod Typed
pub mod Doors
pub mod Conflicts
pub mod Boards
pub mod Own
pub mod Ends
