-- The order of addresses in a claim tree, which is a total order. An address is what a claims path pointer
-- (OpenID4VP 1.0, section 7) selects in one tree: names of members, and places of elements counted from 0.
use Rattle.std.specs.Prelude.{◌≡◌, List, refl}
use Rattle.std.specs.Cmp.{IsTotalOrder, nat_cmp_total}
use Rattle.std.specs.Ordering.{nat_cmp, ordering_reverse}
use Rattle.std.specs.Cmp.Lexicographic.{slice_cmp, nat_list_cmp_total, lists_total}
use Rattle.std.specs.declared.cmp.Ordering.{Ordering}
use Rattle.std.specs.declared.cmp.Ordering.TheVariants.{Less, Equal, Greater}
use Rattle.claim_names.specs.declared.address.Step.{Step}
use Rattle.claim_names.specs.declared.address.Step.TheVariants.{Name, Place}

-- Names are ordered by their bytes and places by number. Every name is less than every place.
abbrev pub step_cmp : Step → Step → Ordering
step_cmp (Name k) (Name l) = slice_cmp nat_cmp k l
step_cmp (Name k) (Place j) = Less
step_cmp (Place i) (Name l) = Greater
step_cmp (Place i) (Place j) = nat_cmp i j

-- step by step; an address is less than every longer one that begins with it
abbrev pub address_cmp : List Step → List Step → Ordering
address_cmp = slice_cmp step_cmp

-- ---- the laws of an order

step-antisymm : (s t : Step) → step_cmp s t ≡ ordering_reverse (step_cmp t s)
step-antisymm (Name k) (Name l) = nat_list_cmp_total.antisymm k l
step-antisymm (Name k) (Place j) = refl
step-antisymm (Place i) (Name l) = refl
step-antisymm (Place i) (Place j) = nat_cmp_total.antisymm i j

step-trans : (s t u : Step) → step_cmp s t ≡ Less → step_cmp t u ≡ Less → step_cmp s u ≡ Less
step-trans (Name k) (Name l) (Name m) p q = nat_list_cmp_total.trans k l m p q
step-trans (Name k) (Name l) (Place j) p q = refl
step-trans (Name k) (Place j) (Name m) p q = cc
step-trans (Name k) (Place i) (Place j) p q = refl
step-trans (Place i) (Name l) u p q = cc
step-trans (Place i) (Place j) (Name m) p q = cc
step-trans (Place i) (Place j) (Place n) p q = nat_cmp_total.trans i j n p q

step-congr : (s t u : Step) → step_cmp s t ≡ Equal → step_cmp s u ≡ step_cmp t u
step-congr (Name k) (Name l) (Name m) e = nat_list_cmp_total.congr k l m e
step-congr (Name k) (Name l) (Place j) e = refl
step-congr (Name k) (Place j) u e = cc
step-congr (Place i) (Name l) u e = cc
step-congr (Place i) (Place j) (Name m) e = refl
step-congr (Place i) (Place j) (Place n) e = nat_cmp_total.congr i j n e

step_cmp_total : IsTotalOrder step_cmp
step_cmp_total = record { antisymm = step-antisymm; trans = step-trans; congr = step-congr }

pub address_cmp_total : IsTotalOrder address_cmp
address_cmp_total = lists_total step_cmp_total
