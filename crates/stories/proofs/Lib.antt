-- 02, C-20, by file.
--     Ways       what can be followed from an id, after an entry went or active locks changed
--     Kept       changes of the lists that keep every remaining entry's story
--     Changes    what each operation leaves, on the lists, over any limits
--     Stories    the theorems: of each operation, on states
--     Again      in the words of the reads: defunct_by_id, current_holder
--     Deeds      of the one call, a record of a feed, and whatever is done to a spare, one after the other
--     Doors      of cablegorse_apply, cablegorse_follow and cablegorse_delete_defunct, image to image
--     Examples   computed: where the count falls, and where another story is told
pub mod Ways
pub mod Kept
pub mod Changes
pub mod Stories
pub mod Again
pub mod Deeds
pub mod Doors
pub mod Examples
