-- Worked examples: the records of 01's sample feed, each refusal in its order, and what the writer answers. Assumes nothing.
use mathlib.Core.Path.{◌≡◌, refl}
use mathlib.Core.Bool.{false}
use mathlib.Core.List.{List, [], ◌∷◌, ◌++◌}
use Prim.Native.Nat.{ℕ}
use lib.ListN.{replicate, drop}
use Rattle.lists.specs.Tests.{◌and◌, non}
use Rattle.ids.specs.Words.{odd_words}
use Rattle.state.specs.Locks.{blank_active, normal}
use Rattle.std.specs.Prelude.{Ok, Err, Some}
use Rattle.records.specs.declared.frame.Unread.TheVariants.{Torn, BadKind, BadField}
use Rattle.records.specs.declared.requests.Request.{Request}
use Rattle.records.specs.declared.requests.Request.TheVariants.{InsertVehicle, Renew, Delete, ExpireDefunct}
use Rattle.records.specs.declared.sending.Unsent.TheVariants.{BadList, ListTooLong, ShortOutput}
use Rattle.records.specs.Numbers.{num, digits, value_of, bytes_of, bytes_of_all, part, splice}
use Rattle.records.specs.Layouts.{pack}
use Rattle.records.specs.Table.{rows, row_of, units_in, possible, length_with, at_head, at_active, in_feed}
use Rattle.records.specs.Framing.{frame_of, frame_at, record_of}
use Rattle.records.specs.Wire.{id}
use Rattle.records.specs.Feeds.{request_of, list_in, words_in}
use Rattle.records.specs.Sending.{body_of, request_bytes, size_of, needed_on, leaves, send_on}

-- "16 00 13 00, 4 zeros, 16 times 01; 0E 00 17 00 02 00 00 00, 8 zeros"
abbrev sample : List ℕ
sample =
    0x16 ∷ 0x00 ∷ 0x13 ∷ 0x00 ∷ (replicate 4 0 ++ (replicate 16 0x01 ++ (0x0e ∷ 0x00 ∷ 0x17 ∷ 0x00 ∷ 0x02 ∷ 0x00 ∷ 0x00 ∷ 0x00 ∷ replicate 8 0)))

delete_framed : frame_at sample 0 in_feed ≡ Ok (record { kind = 19; start = 4; size = 20; units = 0; next = 24 })
unfolding frame_at frame_of row_of rows possible units_in value_of num ◌and◌ non
delete_framed = refl

delete_read : request_of 19 (part sample 4 20) ≡ Some (0, (Delete (id 0x0101_0101_0101_0101 0x0101_0101_0101_0101)))
unfolding request_of value_of num ◌and◌
delete_read = refl

expire_framed : frame_at sample 24 in_feed ≡ Ok (record { kind = 23; start = 28; size = 12; units = 0; next = 40 })
unfolding frame_at frame_of row_of rows possible units_in value_of num ◌and◌ non
expire_framed = refl

expire_read : request_of 23 (part sample 28 12) ≡ Some (2, (ExpireDefunct 0))
unfolding request_of value_of num ◌and◌
expire_read = refl

-- at the end, and past it
at_the_end : frame_at sample 40 in_feed ≡ Err (Torn 40)
unfolding frame_at
at_the_end = refl

past_the_end : frame_at sample 99 in_feed ≡ Err (Torn 99)
unfolding frame_at
past_the_end = refl

-- a kind of the feed where an image is read, a kind of an image in the feed, and one that there is not
feed_in_image : frame_at sample 0 at_head ≡ Err (BadKind 0)
unfolding frame_at frame_of row_of rows value_of num non
feed_in_image = refl

head_in_feed : frame_at (18 ∷ 0 ∷ 1 ∷ 0 ∷ []) 0 in_feed ≡ Err (BadKind 0)
unfolding frame_at frame_of row_of rows value_of num non
head_in_feed = refl

-- a bad kind beats a bad length, a bad length beats missing bytes
no_such_kind : frame_at (1 ∷ 0 ∷ 4 ∷ 0 ∷ []) 0 in_feed ≡ Err (BadKind 0)
unfolding frame_at row_of rows value_of num
no_such_kind = refl

bad_length : frame_at (88 ∷ 0 ∷ 2 ∷ 0 ∷ []) 0 at_active ≡ Err (BadField 0)
unfolding frame_at frame_of row_of rows possible units_in value_of num ◌and◌ non
bad_length = refl

bytes_missing : frame_at (89 ∷ 0 ∷ 2 ∷ 0 ∷ []) 0 at_active ≡ Err (Torn 0)
unfolding frame_at frame_of row_of rows possible units_in value_of num ◌and◌ non
bytes_missing = refl

-- 64 ids are the most: 95 + 16 * 64 is 0x45f, 95 + 16 * 65 is 0x46f
most_ids : frame_at (0x5f ∷ 4 ∷ 17 ∷ 0 ∷ []) 0 in_feed ≡ Err (Torn 0)
unfolding frame_at frame_of row_of rows possible units_in value_of num ◌and◌ non
most_ids = refl

too_many_ids : frame_at (0x6f ∷ 4 ∷ 17 ∷ 0 ∷ []) 0 in_feed ≡ Err (BadField 0)
unfolding frame_at frame_of row_of rows possible units_in value_of num ◌and◌ non
too_many_ids = refl

-- ---- the writer
abbrev vehicle : Request
vehicle = InsertVehicle blank_active

abbrev deletion : Request
deletion = Delete (id 0x0101_0101_0101_0101 0x0101_0101_0101_0101)

-- metadata that isn't given
abbrev renewed : Request
renewed = Renew (record { id = id 1 2; expires = 3; now = 4; metadata = 7; given = false })

-- the ids 2, 1, 1
abbrev twice : List ℕ
twice = 0 ∷ 2 ∷ 0 ∷ 1 ∷ 0 ∷ 1 ∷ []

record Writes : Type 0 where
  -- has-metadata and metadata are zero, though the request holds a 7
  not_given : request_bytes 5 renewed []
      ≡ 43 ∷ 0 ∷ 18 ∷ 0 ∷ 5 ∷ (replicate 10 0 ++ (1 ∷ (replicate 7 0 ++ (2 ∷ 3 ∷ (replicate 7 0 ++ (4 ∷ (replicate 7 0 ++ replicate 5 0)))))))
  -- order and repeats are kept
  kept : drop 95 (request_bytes 0 vehicle twice) ≡ 3 ∷ 0 ∷ (replicate 15 0 ++ (2 ∷ (replicate 15 0 ++ (1 ∷ (replicate 15 0 ++ (1 ∷ []))))))
  kept_read : words_in (list_in vehicle (body_of 0 vehicle twice)) ≡ twice
  -- 14 before 29, 29 before 21: 131 words are odd and over 64 ids, 130 only over, 128 neither
  odd : send_on 0 vehicle (replicate 131 0) [] ≡ leaves (Err BadList) []
  long : send_on 0 vehicle (replicate 130 0) [] ≡ leaves (Err ListTooLong) []
  short : send_on 0 vehicle (replicate 128 0) [] ≡ leaves (Err (ShortOutput 1121)) []
  -- a refusal leaves the buffer; a success what lies past the record
  one_less : send_on 0 deletion [] (replicate 23 9) ≡ leaves (Err (ShortOutput 24)) (replicate 23 9)
  exact : send_on 0 deletion [] (replicate 24 9) ≡ leaves (Ok 24) (part sample 0 24)
  one_more : send_on 0 deletion [] (replicate 25 9) ≡ leaves (Ok 24) (part sample 0 24 ++ (9 ∷ []))
  -- a list that the request doesn't have isn't looked at
  unread : send_on 0 deletion (replicate 131 0) (replicate 24 9) ≡ leaves (Ok 24) (part sample 0 24)

writes : Writes
unfolding send_on needed_on request_bytes size_of length_with row_of rows record_of pack bytes_of digits bytes_of_all splice odd_words words_in value_of num normal blank_active non ◌and◌
writes =
    record {
      not_given = refl;
      kept = refl;
      kept_read = refl;
      odd = refl;
      long = refl;
      short = refl;
      one_less = refl;
      exact = refl;
      one_more = refl;
      unread = refl;
    }
