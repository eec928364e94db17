-- What may be picked for the credential queries of a query: that a credential meets a credential query under
-- a
-- claim set (OpenID4VP 1.0, section 6.4.1), in their order, and the least of them from a place on.
use Rattle.std.specs.Prelude.{ℕ, ◌==◌, ◌&&◌, ◌||◌, nat_lt, nat_le, Bool, List, [], ◌∷◌, Option, Some, None}
use Rattle.std.specs.Prelude.{if◌then◌else◌}
use Rattle.std.specs.Ordering.{nat_cmp, on, then_cmp}
use Rattle.std.specs.declared.cmp.Ordering.{Ordering}
use Rattle.std.specs.declared.cmp.Ordering.TheVariants.{Less, Equal, Greater}
use Rattle.dcql_answers.specs.declared.pick.Pick.{Pick}
use Rattle.dcql_answers.specs.declared.fits.Fit.{Fit}
use Rattle.dcql_answers.specs.Answer.{pick_cmp}

-- that of a credential query, a credential and a claim set
abbrev pub fit_of : ℕ × ℕ × ℕ → Fit
fit_of t = record { query = t.0; credential = t.1; set = t.2 }

-- by credential query, then by credential, then by claim set
abbrev pub fit_cmp : Fit → Fit → Ordering
fit_cmp = then_cmp (on (λ f. f.query) nat_cmp)
    (then_cmp (on (λ f. f.credential) nat_cmp) (on (λ f. f.set) nat_cmp))

abbrev pub pick_of : Fit → Pick
pick_of f = record { credential = f.credential; set = f.set }

-- a fit of query i that is not before this credential and claim set
abbrev pub is_from : ℕ → ℕ → ℕ → Fit → Bool
is_from i c s f = (f.query == i) && (nat_lt c f.credential || ((f.credential == c) && nat_le s f.set))

-- the lesser of two, the second of which may be missing
abbrev pub lesser_by : Ordering → Pick → Pick → Pick
lesser_by Less p r = p
lesser_by Equal p r = p
lesser_by Greater p r = r

abbrev pub lesser : Pick → Option Pick → Pick
lesser p None = p
lesser p (Some r) = lesser_by (pick_cmp p r) p r

-- the least pick for query i that is not before this credential and claim set
abbrev pub least_fit : List Fit → ℕ → ℕ → ℕ → Option Pick
least_fit [] i c s = None
least_fit (f ∷ fs) i c s =
    if is_from i c s f then Some (lesser (pick_of f) (least_fit fs i c s)) else least_fit fs i c s
