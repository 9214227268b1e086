-- A reply's bytes in a lent buffer, and the whole read. Assumes nothing.
use Rattle.std.specs.Prelude.{List, [], ℕ, take}
use Rattle.records.specs.Numbers.{bytes_of_all}
use Rattle.records.specs.Wire.{id_bytes}
use Rattle.image.specs.Image.{active_list, defunct_list, bytes_of_one}
use Rattle.cablegorse.specs.declared.questions.Body.{Body}
use Rattle.cablegorse.specs.declared.questions.Body.TheVariants as body
use Rattle.cablegorse.specs.declared.questions.Reply.{Reply}
use Rattle.cablegorse.specs.Telling.{Kept, kept, fitted}
use Rattle.cablegorse.specs.Boundary.{on_image}
use Rattle.cablegorse.specs.Questions.{reply_on}

-- an ACTIVE record, a DEFUNCT record, or the ids that are counted, sixteen bytes each
unfoldable pub bytes_of_body : Body → List ℕ
bytes_of_body body.Nothing = []
bytes_of_body (body.Active a) = bytes_of_one active_list a
bytes_of_body (body.Defunct d) = bytes_of_one defunct_list d
bytes_of_body (body.Ids w) = bytes_of_all id_bytes (take w.count w.ids)

-- 21, or the bytes and the answer
unfoldable pub put_of : Reply → List ℕ → Kept
put_of r out = fitted r.told (bytes_of_body r.body) out

unfoldable pub read_of : List ℕ → ℕ → ℕ → ℕ → List ℕ → List ℕ → Kept
read_of s q x y b out = on_image s (λ t. kept t out) (λ sp. put_of (reply_on sp.state q x y b) out)
