use mathlib.Core.Logic.{⊎_elim}
use Rattle.lists.specs.Tests.{◌or◌}
use Rattle.locks.specs.Locks.{response_of}
use Rattle.locks.proofs.Laws.{class_0, class_3_5, class_6_7, class_none}
use Rattle.locks.proofs.response_class.Goals as goal

pub returns-in-10 : goal.returns-in-10
unfolding response_of ◌or◌
returns-in-10 c = rw c.in-10.is

pub returns-in-26 : goal.returns-in-26
unfolding response_of ◌or◌
returns-in-26 c = rw c.in-26.is

pub returns-in_default : goal.returns-in_default
returns-in_default c = class_0 _ c.in_default.if-number-lt1-own.true

pub returns-in_default-2 : goal.returns-in_default-2
returns-in_default-2 c = let r = c.in_default.in_default-own.rest in class_none _ c.in_default.if-number-lt8-own.false r.0.0.0.1 r.0.0.1 r.0.1 r.1

pub returns-in-2 : goal.returns-in-2
unfolding response_of ◌or◌
returns-in-2 c = ⊎_elim (λ e. rw e) (λ e. rw e) c.in-2.in-2-own.keys2

pub returns-in-2-2 : goal.returns-in-2-2
returns-in-2-2 c = class_6_7 _ c.in-2.if-number-lt6-own.false c.in-2.if-number-lt8-own.true

pub returns-in-1 : goal.returns-in-1
unfolding response_of ◌or◌
returns-in-1 c = ⊎_elim (λ e. rw e) (⊎_elim (λ e. rw e) (λ e. rw e)) c.in-1.in-1-own.keys3

pub returns-in-1-2 : goal.returns-in-1-2
returns-in-1-2 c = let r = c.in-1.in_default-own.rest in class_3_5 _ c.in-1.if-number-lt1-own.false c.in-1.if-number-lt6-own.true r.0.1 r.0.0.1
