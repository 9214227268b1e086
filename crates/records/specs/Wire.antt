-- The bodies of HEAD, ACTIVE and DEFUNCT, as document 01 lays them out: "Flags are 0 or 1; a number, set, parent or
-- metadata that doesn't apply is zero". Assumes nothing.
use Rattle.std.specs.Prelude.{ℕ, Bool, true, false, not, cond, List, [], ◌∷◌, ◌++◌, get_or, eqb, leb}
use Rattle.lists.specs.Tests.{◌and◌, ◌imp◌}
use Rattle.ids.specs.declared.LockId.{LockId}
use Rattle.state.specs.declared.ScopeKey.{ScopeKey}
use Rattle.state.specs.declared.ScopeKey.TheVariants.{Vehicle, Ecu, FunctionalGroup}
use Rattle.state.specs.declared.Lock.{Lock}
use Rattle.state.specs.declared.ActiveLock.{ActiveLock}
use Rattle.state.specs.declared.DefunctLock.{DefunctLock}
use Rattle.records.specs.declared.bodies.Head.{Head}
use Rattle.records.specs.Numbers.{little, big, bytes_of}
use Rattle.records.specs.Codecs.{Codec, joined}

abbrev pub flag : Bool → ℕ
flag true = 1
flag false = 0

-- "scope kind (0 vehicle, 1 ECU, 2 group)"
abbrev pub scope_kind : ScopeKey → ℕ
scope_kind Vehicle = 0
scope_kind (Ecu n) = 1
scope_kind (FunctionalGroup n) = 2

abbrev pub scope_number : ScopeKey → ℕ
scope_number Vehicle = 0
scope_number (Ecu n) = n
scope_number (FunctionalGroup n) = n

unfoldable pub scope_of : ℕ → ℕ → ScopeKey
scope_of k n = cond (eqb k 0) Vehicle (cond (eqb k 1) (Ecu n) (FunctionalGroup n))

unfoldable pub scope_right : ℕ → ℕ → Bool
scope_right k n = leb k 2 and (eqb k 0 imp eqb n 0)

-- "coverage kind (0 vehicle, 1 set)"
unfoldable pub set_right : ℕ → ℕ → ℕ → ℕ → ℕ → Bool
set_right k w0 w1 w2 w3 = leb k 1 and (eqb k 0 imp eqb w0 0 and eqb w1 0 and eqb w2 0 and eqb w3 0)

unfoldable pub parent_right : ℕ → ℕ → ℕ → Bool
parent_right k hi lo = leb k 1 and (eqb k 0 imp eqb hi 0 and eqb lo 0)

-- an id: its first eight bytes and its last eight, the first byte most significant
abbrev pub id : ℕ → ℕ → LockId
id h l = record { hi = h; lo = l }

abbrev pub id_bytes : LockId → List ℕ
id_bytes i = bytes_of (big 8) i.hi ++ bytes_of (big 8) i.lo

-- "Lock start, 62 bytes: id 16, scope kind 1, scope number 1, exclusive 1, coverage kind 1, set 32, subject 2, principal 4,
-- metadata 4". The set as four words, least byte first, so that ECU e is bit e mod 64 of word e / 64.
abbrev pub lock_start : Codec Lock
lock_start =
    record {
      layout =
          big 8 ∷ big 8 ∷ little 1 ∷ little 1 ∷ little 1 ∷ little 1 ∷ little 8 ∷ little 8 ∷ little 8 ∷ little 8 ∷ little 2 ∷ little 4 ∷ little 4 ∷ [];
      made = λ v.
          record {
            id = id (get_or v 0 0) (get_or v 1 0);
            coverage = record { w0 = get_or v 6 0; w1 = get_or v 7 0; w2 = get_or v 8 0; w3 = get_or v 9 0; whole = eqb (get_or v 5 0) 0 };
            principal = get_or v 11 0;
            metadata = get_or v 12 0;
            subject = get_or v 10 0;
            scope = scope_of (get_or v 2 0) (get_or v 3 0);
            exclusive = eqb (get_or v 4 0) 1;
          };
      numbers = λ l.
          l.id.hi ∷ l.id.lo ∷ scope_kind l.scope ∷ scope_number l.scope ∷ flag l.exclusive ∷ flag (not l.coverage.whole)
          ∷ l.coverage.w0 ∷ l.coverage.w1 ∷ l.coverage.w2 ∷ l.coverage.w3 ∷ l.subject ∷ l.principal ∷ l.metadata ∷ [];
      right = λ v.
          scope_right (get_or v 2 0) (get_or v 3 0) and leb (get_or v 4 0) 1 and set_right (get_or v 5 0) (get_or v 6 0) (get_or v 7 0) (get_or v 8 0) (get_or v 9 0);
    }

-- "expiry 8, has-parent 1, parent 16"
abbrev pub active_end : Codec (ℕ × Bool × LockId)
active_end =
    record {
      layout = little 8 ∷ little 1 ∷ big 8 ∷ big 8 ∷ [];
      made = λ v. (get_or v 0 0, eqb (get_or v 1 0) 1, id (get_or v 2 0) (get_or v 3 0));
      numbers = λ e. e.0 ∷ flag e.1 ∷ e.2.hi ∷ e.2.lo ∷ [];
      right = λ v. parent_right (get_or v 1 0) (get_or v 2 0) (get_or v 3 0);
    }

abbrev pub active_with : Lock → ℕ × Bool × LockId → ActiveLock
active_with l e = record { lock = l; parent = e.2; expires = e.0; child = e.1 }

abbrev pub active_rest : ActiveLock → ℕ × Bool × LockId
active_rest a = (a.expires, a.child, a.parent)

-- "ACTIVE: lock start, expiry 8, has-parent 1, parent 16"
abbrev pub active : Codec ActiveLock
active = joined lock_start active_end active_with (λ a. a.lock) active_rest

-- "original expiry 8, broken at 8, broken by 4, replacement id 16, replacement holder 2"
abbrev pub defunct_end : Codec (ℕ × ℕ × ℕ × LockId × ℕ)
defunct_end =
    record {
      layout = little 8 ∷ little 8 ∷ little 4 ∷ big 8 ∷ big 8 ∷ little 2 ∷ [];
      made = λ v. (get_or v 0 0, get_or v 1 0, get_or v 2 0, id (get_or v 3 0) (get_or v 4 0), get_or v 5 0);
      numbers = λ e. e.0 ∷ e.1 ∷ e.2 ∷ e.3.hi ∷ e.3.lo ∷ e.4 ∷ [];
      right = λ v. true;
    }

abbrev pub defunct_with : Lock → ℕ × ℕ × ℕ × LockId × ℕ → DefunctLock
defunct_with l e = record { lock = l; target = e.3; expires = e.0; broken = e.1; breaker = e.2; holder = e.4 }

abbrev pub defunct_rest : DefunctLock → ℕ × ℕ × ℕ × LockId × ℕ
defunct_rest d = (d.expires, d.broken, d.breaker, d.target, d.holder)

-- "DEFUNCT: lock start, original expiry 8, broken at 8, broken by 4, replacement id 16, replacement holder 2"
abbrev pub defunct : Codec DefunctLock
defunct = joined lock_start defunct_end defunct_with (λ d. d.lock) defunct_rest

-- "HEAD: revision 8, expected sequence 4, active 2, defunct 2"; "count (in HEAD over 64 or 128) .. wrong, 19"
abbrev pub head : Codec Head
head =
    record {
      layout = little 8 ∷ little 4 ∷ little 2 ∷ little 2 ∷ [];
      made = λ v. record { revision = get_or v 0 0; expected = get_or v 1 0; actives = get_or v 2 0; defuncts = get_or v 3 0 };
      numbers = λ h. h.revision ∷ h.expected ∷ h.actives ∷ h.defuncts ∷ [];
      right = λ v. leb (get_or v 2 0) 64 and leb (get_or v 3 0) 128;
    }
