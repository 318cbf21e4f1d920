-- Why a posted configuration is refused.
use Rattle.std.proofs.Common.{◌≡◌, ◌⊎◌, ℕ, ◌≤◌, nat_lt, false, List, [], Result, Err, length, refl, ap, inl, inr, arith}
use Rattle.std.proofs.lemmas.Bool.Decides.{nat_tests}
use Rattle.am_pattern.specs.Cache.{Cache}
use Rattle.am_match.specs.Checking.{AreRefusedRightly}
use Rattle.am_draft.specs.declared.draft.Draft.{Draft}
use Rattle.am_draft.specs.declared.refusal.DraftRefusal.{DraftRefusal}
use Rattle.am_config.specs.declared.refusal.ConfigRefusal.{ConfigRefusal}
use Rattle.am_config.specs.declared.refusal.ConfigRefusal.TheVariants.{NotJson, BadForm, BadReceiver, RootMatchers, BadDuration, LeftOut, BadMatcher, TooMany, BadUrl, BuildRefused}
use Rattle.am_config.specs.Judging.{IsRefusalOf, configuration}
use Rattle.am_config.specs.Matching.{patterns_of_draft}
use Rattle.am_draft.specs.Drafts.{posted}
use Rattle.am_config.specs.Configuration as config
use Rattle.am_config.specs.Refusals as config_refusals
use Rattle.am_limit.specs.declared.limits.Limits.{Limits}
use Rattle.am_item.specs.declared.fault.Fault.{Fault}
use Rattle.am_item.specs.declared.item.Item.{Item}
use Rattle.am_alert.specs.declared.maker.Maker.{Maker}
use Rattle.am_api.specs.declared.decision.Decided.{Decided}
use Rattle.am_api.specs.Deciding.{Decides, DecidesBy, IsUnbuilt}
use Rattle.am_query.specs.Patterns.{HasRefused}
use Rattle.am_query.proofs.Builds.{rightly_or_refused}
use Rattle.am_api.specs.Decision.{accepted_or_refused, configuration_posted, status_of}
use Rattle.am_api.specs.Refusing.{ConfigurationRefuses, refused_document}
use Rattle.am_api.proofs.Builds.{decides_unless}
use Rattle.am_api.proofs.Keeping.{IsOfMatcher, configuration_kept}
use Rattle.am_api.proofs.Replies.{refuses_decides}

module _ (drafted : Result Draft DraftRefusal) (old new : Cache) where
  of_matcher : (refusal : ConfigRefusal) → IsOfMatcher refusal → (AreRefusedRightly new.refused (patterns_of_draft drafted) → configuration drafted ≡ Err refusal) →
      (configuration drafted ≡ Err refusal) ⊎ (IsOfMatcher refusal × HasRefused new.refused (patterns_of_draft drafted))
  of_matcher refusal is means =
      elim (rightly_or_refused new.refused (patterns_of_draft drafted)) [ inl rightly ↦ inl (means rightly) | inr found ↦ inr (is, found) ]

  -- it is the one that the document has, or one for a pattern that isn't built
  pub configuration_refused : (refusal : ConfigRefusal) → IsRefusalOf drafted old new refusal →
      (AreRefusedRightly new.refused (patterns_of_draft drafted) → configuration drafted ≡ Err refusal) →
      (configuration drafted ≡ Err refusal) ⊎ (IsOfMatcher refusal × HasRefused new.refused (patterns_of_draft drafted))
  configuration_refused NotJson found means = inl found.0
  configuration_refused BadForm found means = inl found.0
  configuration_refused BadReceiver found means = inl found.0
  configuration_refused RootMatchers found means = inl found.0
  configuration_refused BadDuration found means = inl found.0
  configuration_refused LeftOut found means = inl found.0
  configuration_refused BadMatcher found means = of_matcher BadMatcher (inr refl) means
  configuration_refused TooMany found means = inl found.0
  configuration_refused BadUrl found means = inl found.0
  configuration_refused BuildRefused found means = of_matcher BuildRefused (inl refl) means

-- ---- the reply to it

matcher_unbuilt : (refusal : ConfigRefusal) → IsOfMatcher refusal → IsUnbuilt (refused_document refusal)
matcher_unbuilt refusal (inl build) = inl (ap refused_document build)
matcher_unbuilt refusal (inr bad) = inr (inr (ap refused_document bad))

by_refusal : (document : List ℕ) (limits : Limits) (old new : Cache) (own stored : List (List ℕ)) (refusal : ConfigRefusal) (held : List Item) (moment : ℕ) (maker : Maker)
    (outcome : Result config.Configuration ConfigRefusal) (result : Result Decided Fault) → length document ≤ limits.configuration →
    IsRefusalOf (posted document) old new refusal → (new.refused ≡ old.refused) ⊎ (IsOfMatcher refusal × HasRefused new.refused own) →
    (outcome ≡ Err refusal) ⊎ (IsOfMatcher refusal × HasRefused new.refused own) → Decides result (refused_document refusal) →
    DecidesBy (ConfigurationRefuses document limits old new) old.refused new.refused own stored result (accepted_or_refused held moment maker outcome)
by_refusal document limits old new own stored refusal held moment maker outcome result within found kept told decides = settled kept told
  where
    unbuilt : IsOfMatcher refusal × HasRefused new.refused own →
        DecidesBy (ConfigurationRefuses document limits old new) old.refused new.refused own stored result (accepted_or_refused held moment maker outcome)
    unbuilt of =
        refuses_decides (ConfigurationRefuses document limits old new) old.refused new.refused own stored (status_of refusal) (config_refusals.code_of refusal)
        (accepted_or_refused held moment maker outcome) result (within, refusal, refl, found) (matcher_unbuilt refusal of.0) of.1 decides

    settled : (new.refused ≡ old.refused) ⊎ (IsOfMatcher refusal × HasRefused new.refused own) →
        (outcome ≡ Err refusal) ⊎ (IsOfMatcher refusal × HasRefused new.refused own) →
        DecidesBy (ConfigurationRefuses document limits old new) old.refused new.refused own stored result (accepted_or_refused held moment maker outcome)
    settled (inl same) (inl is) =
        rw is (decides_unless (ConfigurationRefuses document limits old new) old.refused new.refused own stored result (refused_document refusal) same decides)
    settled (inr of) told' = unbuilt of
    settled (inl same) (inr of) = unbuilt of

-- a document within the limit that is refused
pub refusal_decides : (old new : Cache) (refusal : ConfigRefusal) (limits : Limits) (held : List Item) (moment : ℕ) (maker : Maker) (document : List ℕ) →
    length document ≤ limits.configuration → IsRefusalOf (posted document) old new refusal →
    (AreRefusedRightly new.refused (patterns_of_draft (posted document)) → configuration (posted document) ≡ Err refusal) →
    (result : Result Decided Fault) → Decides result (refused_document refusal) →
    DecidesBy (ConfigurationRefuses document limits old new) old.refused new.refused (patterns_of_draft (posted document)) [] result
    (configuration_posted limits held moment maker document)
refusal_decides old new refusal limits held moment maker document within found means result decides =
    let fits : nat_lt limits.configuration (length document) ≡ false = grind (arith, nat_tests) in
    rw fits (by_refusal document limits old new (patterns_of_draft (posted document)) [] refusal held moment maker (configuration (posted document)) result within found
    (configuration_kept (posted document) old new refusal found) (configuration_refused (posted document) old new refusal found means) decides)
