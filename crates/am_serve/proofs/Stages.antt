-- How far a client is, stage by stage.
use Rattle.std.proofs.Common.{◌≡◌, ◌⊎◌, List, [], ◌++◌, ◌∷◌, refl, sym, ap, ◌∙◌, subst, inl, inr, append-nil}
use Rattle.am_serve.specs.Acts.{Read}
use Rattle.am_serve.specs.Clients.{IsAsking, IsAwaiting, IsDraining, IsTelling, IsTold, StageAfter, acts_at, reply_of, unsaid, whole_reply}
use Rattle.am_serve.specs.declared.client.Stage.{Stage}
use Rattle.am_serve.specs.declared.client.Stage.TheVariants.{Asking, Awaiting, Telling, Draining}
use Rattle.am_serve.specs.declared.host.Verdict.{Verdict}
use Rattle.am_serve.specs.declared.host.Verdict.TheVariants.{Undecided, Reply, Later, Gone}
use Rattle.am_serve.specs.declared.socket.Moved.{Moved}

pub draining_asks : (stage : Stage) → IsDraining stage → IsAsking stage → ⊥
draining_asks Asking p q = p
draining_asks Awaiting p q = p
draining_asks (Telling _) p q = q
draining_asks Draining p q = q

pub telling_asks : (stage : Stage) → IsTelling stage → IsAsking stage → ⊥
telling_asks Asking p q = p
telling_asks Awaiting p q = p
telling_asks (Telling _) p q = q
telling_asks Draining p q = q

pub stands : (stage : Stage) → (IsAsking stage) ⊎ (IsAsking stage → ⊥)
stands Asking = inl tt
stands Awaiting = inr (λ h. h)
stands (Telling _) = inr (λ h. h)
stands Draining = inr (λ h. h)

pub telling_drains : (stage : Stage) → IsTelling stage → IsDraining stage → ⊥
telling_drains Asking p q = p
telling_drains Awaiting p q = p
telling_drains (Telling _) p q = q
telling_drains Draining p q = p

pub asking_drains : (stage : Stage) → IsAsking stage → IsDraining stage → ⊥
asking_drains Asking p q = q
asking_drains Awaiting p q = p
asking_drains (Telling _) p q = q
asking_drains Draining p q = p

pub told_drains : (stage : Stage) → IsTold stage → IsDraining stage → ⊥
told_drains Asking p q = p
told_drains Awaiting p q = p
told_drains (Telling _) p q = q
told_drains Draining p q = p

pub told_asks : (stage : Stage) → IsTold stage → IsAsking stage → ⊥
told_asks Asking p q = p
told_asks Awaiting p q = p
told_asks (Telling _) p q = q
told_asks Draining p q = q

pub nothing_left : (stage : Stage) → IsTold stage → unsaid stage ≡ []
nothing_left Asking h = absurd h
nothing_left Awaiting h = absurd h
nothing_left (Telling reply) h = h
nothing_left Draining h = absurd h

pub nothing_said : (stage : Stage) → IsAsking stage → unsaid stage ≡ []
nothing_said Asking h = refl
nothing_said Awaiting h = absurd h
nothing_said (Telling _) h = absurd h
nothing_said Draining h = absurd h

pub after_verdict : (verdict : Verdict) (stage : Stage) → StageAfter verdict stage → unsaid stage ≡ reply_of verdict ++ []
after_verdict Undecided stage h = ap unsaid h
after_verdict (Reply bytes) stage h = h.1 ∙ sym (append-nil bytes.items)
after_verdict Later stage h = ap unsaid h
after_verdict Gone stage h = ap unsaid h

pub no_reply : (stage : Stage) → IsAsking stage → whole_reply stage ≡ []
no_reply Asking h = refl
no_reply Awaiting h = absurd h
no_reply (Telling _) h = absurd h
no_reply Draining h = absurd h

pub reply : (verdict : Verdict) (stage : Stage) → StageAfter verdict stage → (IsDraining stage → ⊥) → whole_reply stage ≡ reply_of verdict ++ []
reply Undecided stage h not = ap whole_reply h
reply (Reply bytes) stage h not = h.2 ∙ sym (append-nil bytes.items)
reply Later stage h not = ap whole_reply h
reply Gone stage h not = absurd (not (subst IsDraining (sym h) tt))

pub is_undecided : (verdict : Verdict) (stage : Stage) → StageAfter verdict stage → IsAsking stage → verdict ≡ Undecided
is_undecided Undecided stage h asking = refl
is_undecided (Reply bytes) stage h asking = absurd (telling_asks stage h.0 asking)
is_undecided Later stage h asking = absurd (subst IsAsking h asking)
is_undecided Gone stage h asking = absurd (subst IsAsking h asking)

-- a client at this stage reads its socket
abbrev pub IsReading : Stage → Type 0
IsReading Asking = Unit {0}
IsReading Awaiting = ⊥
IsReading (Telling _) = ⊥
IsReading Draining = Unit {0}

pub reading : (stage : Stage) (moved : Moved) → IsReading stage → acts_at stage moved ≡ Read moved [] ∷ []
reading Asking moved h = refl
reading Awaiting moved h = absurd h
reading (Telling _) moved h = absurd h
reading Draining moved h = refl

pub asking_tells : (stage : Stage) → IsAsking stage → IsTelling stage → ⊥
asking_tells Asking p q = q
asking_tells Awaiting p q = p
asking_tells (Telling _) p q = p
asking_tells Draining p q = q

pub draining_tells : (stage : Stage) → IsDraining stage → IsTelling stage → ⊥
draining_tells Asking p q = q
draining_tells Awaiting p q = p
draining_tells (Telling _) p q = p
draining_tells Draining p q = q

pub asking_reads : (stage : Stage) → IsAsking stage → IsReading stage
asking_reads Asking p = tt
asking_reads Awaiting p = absurd p
asking_reads (Telling _) p = absurd p
asking_reads Draining p = absurd p

pub draining_reads : (stage : Stage) → IsDraining stage → IsReading stage
draining_reads Asking p = absurd p
draining_reads Awaiting p = absurd p
draining_reads (Telling _) p = absurd p
draining_reads Draining p = tt

pub awaiting_tells : (stage : Stage) → IsAwaiting stage → IsTelling stage → ⊥
awaiting_tells Asking p q = p
awaiting_tells Awaiting p q = q
awaiting_tells (Telling _) p q = p
awaiting_tells Draining p q = p

pub awaiting_asks : (stage : Stage) → IsAwaiting stage → IsAsking stage → ⊥
awaiting_asks Asking p q = p
awaiting_asks Awaiting p q = q
awaiting_asks (Telling _) p q = p
awaiting_asks Draining p q = p

pub awaiting_drains : (stage : Stage) → IsAwaiting stage → IsDraining stage → ⊥
awaiting_drains Asking p q = p
awaiting_drains Awaiting p q = q
awaiting_drains (Telling _) p q = p
awaiting_drains Draining p q = p

pub awaiting_told : (stage : Stage) → IsAwaiting stage → IsTold stage → ⊥
awaiting_told Asking p q = p
awaiting_told Awaiting p q = q
awaiting_told (Telling _) p q = p
awaiting_told Draining p q = p

pub asking_told : (stage : Stage) → IsAsking stage → IsTold stage → ⊥
asking_told stage p q = told_asks stage q p

pub draining_told : (stage : Stage) → IsDraining stage → IsTold stage → ⊥
draining_told stage p q = told_drains stage q p

pub telling_told : (stage : Stage) → IsTelling stage → unsaid stage ≡ [] → IsTold stage
telling_told Asking p q = absurd p
telling_told Awaiting p q = absurd p
telling_told (Telling _) p q = q
telling_told Draining p q = absurd p
