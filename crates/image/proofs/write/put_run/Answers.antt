use Rattle.std.proofs.Common.{◌≡◌, ℕ, ◌+◌, ◌*◌, ◌≤◌, length, ap, ap₂, ◌∙◌, refl, arith}
use Rattle.std.proofs.Math.Nat.{mul-le-mul_right}
use Rattle.std.proofs.lemmas.List.{take_all}
use Rattle.records.specs.Numbers.{splice, stored as stored_in}
use Rattle.records.proofs.Runs.{Put, starts, turns, ends}
use Rattle.image.specs.Image.{bytes_of_one, bytes_of_run}
use Rattle.image.proofs.write.put_run.Goals as goal

pub loop-lock-init : goal.loop-lock-init
loop-lock-init g c =
    let p = starts (bytes_of_one g.R.Entry.list) g.R.Entry.SIZE c.requires.size c.args.out.now c.args.from (length c.args.locks.now) c.args.locks.now (omega (arith, c.requires.room)) in
    record { place = omega arith; stored = p.stored }

-- the record that is stored stands within the buffer
pub overflow_add-at : goal.overflow_add-at
overflow_add-at g c = omega (arith, c.requires.room, c.loop-lock.invariant.place, mul-le-mul_right {m = c.loop-lock.lock-index + 1} {n = length c.args.locks.now} g.R.Entry.SIZE (omega arith), c.SIZE-size.ensures, c.well_formed)

pub loop-lock-preserved : goal.loop-lock-preserved
loop-lock-preserved g c =
    let l = c.loop-lock in
    let p = turns (bytes_of_one g.R.Entry.list) g.R.Entry.SIZE c.requires.size c.args.out.now c.args.from (length c.args.locks.now) c.args.locks.now (omega arith) c.requires.room c.lock-item.result l.out c.put.new.out l.lock-index c.loop-lock-test.true
    (record { most = omega arith; size = l.auto.out; stored = l.invariant.stored })
    (c.put.ensures ∙ ap₂ (λ (n : ℕ) r. stored_in l.out n (bytes_of_one g.R.Entry.list r)) l.invariant.place c.lock-item.is) in
    record { place = omega (arith, c.SIZE-size.ensures); stored = p.stored }

pub returns : goal.returns
returns g c =
    let l = c.loop-lock in
    ends (bytes_of_one g.R.Entry.list) g.R.Entry.SIZE c.requires.size c.args.out.now c.args.from (length c.args.locks.now) c.args.locks.now (omega arith) c.requires.room l.out l.lock-index c.loop-lock-test.false
    (record { most = omega arith; size = l.auto.out; stored = l.invariant.stored })
    ∙ ap (λ r. splice c.args.out.now c.args.from (bytes_of_run g.R.Entry.list r)) (take_all (length c.args.locks.now) c.args.locks.now (omega arith))
