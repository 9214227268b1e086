-- A host at the library's door: it calls cablegorse_apply record after record, image to image, with any buffers, and keeps
-- the image that was written (part 2), or the one it has where the record was out of turn (part 1 with 15 or 16). Assumes
-- nothing.
use Rattle.std.specs.Prelude.{ℕ, suc, List, ◌≡◌, ◌⊎◌, take}
use Rattle.cablegorse.specs.Changes.{apply_of}

-- from one image and place of the feed to another
pub data Chain (feed : List ℕ) : List ℕ → ℕ → List ℕ → ℕ → Type 0 where
  ended : {image : List ℕ} {at : ℕ} → Chain feed image at image at
  applied : {image last : List ℕ} {at end : ℕ} (next removed expired : List ℕ) → (apply_of image feed at next removed expired).told.part ≡ 2
      → Chain feed (take (apply_of image feed at next removed expired).told.written (apply_of image feed at next removed expired).next) (apply_of image feed at next removed expired).told.place last end
      → Chain feed image at last end
  passed : {image last : List ℕ} {at end : ℕ} (next removed expired : List ℕ) → (apply_of image feed at next removed expired).told.part ≡ 1
      → ((apply_of image feed at next removed expired).told.number ≡ 15) ⊎ ((apply_of image feed at next removed expired).told.number ≡ 16)
      → Chain feed image (apply_of image feed at next removed expired).told.place last end
      → Chain feed image at last end

-- how many calls it has
unfoldable pub calls : {feed image last : List ℕ} {at end : ℕ} → Chain feed image at last end → ℕ
calls ended = 0
calls (applied next removed expired part rest) = suc (calls rest)
calls (passed next removed expired part number rest) = suc (calls rest)
