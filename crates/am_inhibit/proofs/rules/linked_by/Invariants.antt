use Rattle.std.proofs.Common.{◌≡◌, ◌<◌, ℕ, true, false, get_or, length, map, take}
use Rattle.am_config.specs.declared.parts.Rule.{Rule}
use Rattle.am_inhibit.specs.Links.{AreAllPlaces, lists_of}
use Rattle.am_inhibit.proofs.WaitingLemmas.{AreInhibitorsBut}
use Rattle.am_inhibit.proofs.rules.linked_by.Given as goal

abbrev pub invariant-loop-number : goal.invariant-loop-number
invariant-loop-number l =
    record {
      links : length l.links.items ≡ length l.sets;
      long : length l.waiting.items ≡ length l.sets;
      waits : (k : ℕ) → get_or l.waiting.items k false ≡ true → l.number < length l.rules;
      inhibitors : (next : Rule) → (l.number < length l.rules → next ≡ get_or (map (λ rule. rule.now) l.rules) l.number next)
          → AreInhibitorsBut next (take l.number (map (λ rule. rule.now) l.rules)) (map (λ set. set.now) l.sets) l.fires l.waiting.items (lists_of l.links.items);
      places : (count : ℕ) → ((place : ℕ) → get_or l.fires place false ≡ true → place < count) → AreAllPlaces count (lists_of l.links.items);
    }
