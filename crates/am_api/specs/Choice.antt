-- What may be decided on a request: the decision, or a refusal for one of its patterns that was refused its build.
use Rattle.std.specs.Prelude.{◌≡◌, ◌⊎◌, ℕ, ◌<◌, All, List, length}
use Rattle.am_http.specs.declared.request.Request.{Request}
use Rattle.am_limit.specs.declared.limits.Limits.{Limits}
use Rattle.am_pattern.specs.Cache.{Cache}
use Rattle.am_pattern.specs.Kept.{HasRegex}
use Rattle.am_query.specs.Patterns.{HasRefused}
use Rattle.am_api.specs.Deciding.{IsUnbuilt}
use Rattle.am_api.specs.Patterns.{patterns_of_request}
use Rattle.am_api.specs.Refusing.{Refuses}
use Rattle.am_api.specs.Replied.{Decision}

-- A pattern of the request was refused its build: under these limits the first of its checks that meets such a one
-- refuses the request, and stores nothing. The first texts had been refused before, and the others afterwards.
pub record IsRefusedBuild (before after : List (List ℕ)) (request : Request) (limits : Limits) (d : Decision) :
    Type 0 where
  pub old : Cache
  pub new : Cache
  pub had : old.refused ≡ before
  pub has : new.refused ≡ after
  pub refuses : Refuses request limits old new d
  pub unbuilt : IsUnbuilt d
  pub own : HasRefused after (patterns_of_request request)

-- what may be decided on a request: the decision, which refuses no build; or, for a pattern of its own, such a refusal
abbrev pub MayDecide : (before after : List (List ℕ)) → Request → Limits → Decision → Decision → Type 0
MayDecide before after request limits decision d =
    ((d ≡ decision) × (after ≡ before)) ⊎ IsRefusedBuild before after request limits d

-- where the request is accepted, a regex was built of each pattern that it brings
abbrev pub BuildsAccepted : Request → Decision → Type 0
BuildsAccepted request d = (0 < length d.items) ⊎ (d.status < 400) → All HasRegex (patterns_of_request request)
