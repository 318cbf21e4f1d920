-- What is planned goes by what is held, of every tenant.
use Rattle.std.proofs.Common.{◌≡◌, ℕ, Bool, true, false, List, sym, subst, if◌then◌else◌}
use Rattle.am_tenant.specs.Names.{same}
use Rattle.am_node.specs.declared.parts.Parts.{Parts}
use Rattle.am_node.specs.Held.{Does, Makes, local_of}
use Rattle.am_node.specs.Local.{Local, Reaction, blank}
use Rattle.am_node.specs.Plans.{IsPlanned}

-- one tenant has what this makes of it, and every other what it had: what is so of all stays so where the change keeps it
pub made_keeps : (P : Local → Type 0) (tenant : List ℕ) (change : Local → Local) (old new : Parts) → ((t : List ℕ) → P (local_of t old))
    → Makes tenant change old new → ((l : Local) → P l → P (change l)) → (t : List ℕ) → P (local_of t new)
made_keeps P tenant change old new holds makes keeps t = by (same t tenant) (makes t)
  where
    by : (b : Bool) → local_of t new ≡ (if b then change (local_of t old) else local_of t old) → P (local_of t new)
    by true is = subst P (sym is) (keeps (local_of t old) (holds t))
    by false is = subst P (sym is) (holds t)

pub made_planned : (tenant : List ℕ) (change : Local → Local) (old new : Parts) → ((t : List ℕ) → IsPlanned (local_of t old)) → Makes tenant change old new →
    ((l : Local) → IsPlanned l → IsPlanned (change l)) → (t : List ℕ) → IsPlanned (local_of t new)
made_planned tenant change old new planned makes keeps = made_keeps IsPlanned tenant change old new planned makes keeps

pub did_planned : (tenant : List ℕ) (react : Local → Reaction) (old new : Parts) → ((t : List ℕ) → IsPlanned (local_of t old)) → Does tenant react old new →
    ((l : Local) → IsPlanned l → IsPlanned (react l).local) → (t : List ℕ) → IsPlanned (local_of t new)
did_planned tenant react old new planned does keeps = made_planned tenant (λ l. (react l).local) old new planned does keeps

-- where it has nothing of any
pub all_blank : (parts : Parts) → IsPlanned blank → ((t : List ℕ) → local_of t parts ≡ blank) → (t : List ℕ) → IsPlanned (local_of t parts)
all_blank parts none is t = subst IsPlanned (sym (is t)) none
