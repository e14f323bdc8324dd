-- `shapes::shape_of` meets its contract: each shape is held to its format by computation.
use mathlib.Core.Path.{refl, ap, sym}
use Prim.Native.Nat.{ℕ, ◌<◌}
use native.Mathlib.Omega.{arith}
use lib.Dec.{lit<}
use Rattle.tables.proofs.Entries.{down}
use Rattle.shapes.specs.Shapes.{type_by, plain, typed}
use Rattle.shapes.proofs.Quickly.{of_format, of_type}
use Rattle.shapes.proofs.shape_of.Goals as goal

pub returns-in-1 : goal.returns-in-1
returns-in-1 c = (lit< tt, typed (ap type_by (sym c.in-1.is)) (of_type refl (lit< tt) refl (lit< tt) refl refl refl tt tt tt))

pub returns-in-2 : goal.returns-in-2
returns-in-2 c = (lit< tt, typed (ap type_by (sym c.in-2.is)) (of_type refl (lit< tt) refl (lit< tt) refl refl refl tt tt tt))

pub returns-in-3 : goal.returns-in-3
returns-in-3 c = (lit< tt, typed (ap type_by (sym c.in-3.is)) (of_type refl (lit< tt) refl (lit< tt) refl refl refl tt tt tt))

pub returns-in-4 : goal.returns-in-4
returns-in-4 c = (lit< tt, typed (ap type_by (sym c.in-4.is)) (of_type refl (lit< tt) refl (lit< tt) refl refl refl tt tt tt))

pub returns-in-5 : goal.returns-in-5
returns-in-5 c = (lit< tt, typed (ap type_by (sym c.in-5.is)) (of_type refl (lit< tt) refl (lit< tt) refl refl refl tt tt tt))

pub returns-in-6 : goal.returns-in-6
returns-in-6 c = (lit< tt, typed (ap type_by (sym c.in-6.is)) (of_type refl (lit< tt) refl (lit< tt) refl refl refl tt tt tt))

pub returns-in-7 : goal.returns-in-7
returns-in-7 c = (lit< tt, typed (ap type_by (sym c.in-7.is)) (of_type refl (lit< tt) refl (lit< tt) refl refl refl tt tt tt))

pub returns-in-8 : goal.returns-in-8
returns-in-8 c = (lit< tt, typed (ap type_by (sym c.in-8.is)) (of_type refl (lit< tt) refl (lit< tt) refl refl refl tt tt tt))

pub returns-in-9 : goal.returns-in-9
returns-in-9 c = (lit< tt, typed (ap type_by (sym c.in-9.is)) (of_type refl (lit< tt) refl (lit< tt) refl refl refl tt tt tt))

pub returns-in-10 : goal.returns-in-10
returns-in-10 c = (lit< tt, typed (ap type_by (sym c.in-10.is)) (of_type refl (lit< tt) refl (lit< tt) refl refl refl tt tt tt))

pub returns-in-11 : goal.returns-in-11
returns-in-11 c = (lit< tt, typed (ap type_by (sym c.in-11.is)) (of_type refl (lit< tt) refl (lit< tt) refl refl refl tt tt tt))

pub returns-in-12 : goal.returns-in-12
returns-in-12 c = (lit< tt, typed (ap type_by (sym c.in-12.is)) (of_type refl (lit< tt) refl (lit< tt) refl refl refl tt tt tt))

pub returns-in-13 : goal.returns-in-13
returns-in-13 c = (lit< tt, typed (ap type_by (sym c.in-13.is)) (of_type refl (lit< tt) refl (lit< tt) refl refl refl tt tt tt))

pub returns-in-14 : goal.returns-in-14
returns-in-14 c = (lit< tt, typed (ap type_by (sym c.in-14.is)) (of_type refl (lit< tt) refl (lit< tt) refl refl refl tt tt tt))

pub returns-in-15 : goal.returns-in-15
returns-in-15 c = (lit< tt, typed (ap type_by (sym c.in-15.is)) (of_type refl (lit< tt) refl (lit< tt) refl refl refl tt tt tt))

-- a number from 1 to 15 is one of these
pub returns-in_default : goal.returns-in_default
returns-in_default c = (
  lit< tt,
  plain
      (λ l m. not_both l
      (down
      (down
      (down
      (down
      (down
      (down
      (down
      (down
      (down
      (down
      (down
      (down (down (down (down m c.in_default.in_default-own.rest.1) c.in_default.in_default-own.rest.0.1) c.in_default.in_default-own.rest.0.0.1) c.in_default.in_default-own.rest.0.0.0.1)
      c.in_default.in_default-own.rest.0.0.0.0.1) c.in_default.in_default-own.rest.0.0.0.0.0.1) c.in_default.in_default-own.rest.0.0.0.0.0.0.1)
      c.in_default.in_default-own.rest.0.0.0.0.0.0.0.1) c.in_default.in_default-own.rest.0.0.0.0.0.0.0.0.1) c.in_default.in_default-own.rest.0.0.0.0.0.0.0.0.0.1)
      c.in_default.in_default-own.rest.0.0.0.0.0.0.0.0.0.0.1) c.in_default.in_default-own.rest.0.0.0.0.0.0.0.0.0.0.0.1)
      c.in_default.in_default-own.rest.0.0.0.0.0.0.0.0.0.0.0.0.1) c.in_default.in_default-own.rest.0.0.0.0.0.0.0.0.0.0.0.0.0.1)
      c.in_default.in_default-own.rest.0.0.0.0.0.0.0.0.0.0.0.0.0.0.1)) refl (of_format refl refl refl tt tt tt),
)
  where
    not_both : {n : ℕ} → 0 < n → n < 1 → ⊥
    not_both l m = omega arith
