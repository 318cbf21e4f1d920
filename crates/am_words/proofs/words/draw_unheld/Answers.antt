use Rattle.std.proofs.Common.{◌≡◌, ◌+◌, ◌<◌, ℕ, List, Option, None, Some, suc, ap, sym, subst, ◌∙◌, arith}
use Rattle.std.specs.Option.{option_map, option_map_or}
use Rattle.rand_chacha.specs.ChaCha.{ChaCha}
use Rattle.am_words.specs.Draws.{first_unheld, id_from, is_held, new_id, place_drawn}
use Rattle.am_words.specs.Words.{place_after, words_in}
use Rattle.am_words.proofs.DrawLemmas.{Drawn, all_held, moved, one_drawn, unheld_drawn}
use Rattle.am_words.proofs.words.draw_unheld.Goals.{Then-not-is_held, After-loop-draw}
use Rattle.am_words.proofs.words.draw_unheld.Goals as goal

-- the draw that is returned is the first that isn't held
first : (c : Then-not-is_held) → first_unheld (words_in c.args.words.now) c.args.words.now.word_pos c.args.held.now
    ≡ Some (id_from (words_in c.loop-draw.words) c.loop-draw.words.word_pos, place_after c.loop-draw.words.word_pos 4)
first c =
    let less : c.loop-draw._draw < 8 = omega arith in
    unheld_drawn c.args.held.now c.args.words.now c.loop-draw.words c.loop-draw._draw less c.loop-draw.invariant
    (ap (is_held c.args.held.now) (sym c.draw-id.ensures.id)
    ∙ sym c.is_held.ensures ∙ c.if-not-is_held.true)

pub returns-then-not-is_held-clause-id : goal.returns-then-not-is_held-clause-id
unfolding new_id
returns-then-not-is_held-clause-id c =
    ap (option_map (λ (draw : List ℕ × ℕ). draw.0)) (first c) ∙ ap Some (sym c.draw-id.ensures.id)

pub returns-then-not-is_held-clause-place : goal.returns-then-not-is_held-clause-place
unfolding place_drawn
returns-then-not-is_held-clause-place c =
    let words = c.draw-id.ensures.words in
    moved c.args.words.now c.draw-id.new.words _ (ap (λ (g : ChaCha). g.key) words ∙ c.loop-draw.invariant.key)
    (ap (λ (g : ChaCha). g.stream) words ∙ c.loop-draw.invariant.stream)
    (ap (λ (g : ChaCha). g.word_pos) words
    ∙ sym (ap (λ (o : Option (List ℕ × ℕ)). option_map_or (λ (draw : List ℕ × ℕ). draw.1) o (place_after c.args.words.now.word_pos 32)) (first c)))

pub loop-draw-preserved : goal.loop-draw-preserved
loop-draw-preserved c =
    let next : suc c.loop-draw._draw ≡ c.loop-draw._draw + 1 = omega arith in
    let less : c.loop-draw._draw < 8 = omega arith in
    subst (λ n. Drawn c.args.held.now c.args.words.now c.draw-id.new.words n) next
    (one_drawn c.args.held.now c.args.words.now c.loop-draw.words c.draw-id.new.words c.loop-draw._draw less
    c.loop-draw.invariant c.draw-id.ensures.words
    (ap (is_held c.args.held.now) (sym c.draw-id.ensures.id)
    ∙ sym c.is_held.ensures ∙ c.if-not-is_held.false))

-- all draws were made, and each is held
all : (c : After-loop-draw) → (first_unheld (words_in c.args.words.now) c.args.words.now.word_pos c.args.held.now ≡ None)
    × (c.loop-draw.words.word_pos ≡ place_after c.args.words.now.word_pos 32)
all c =
    let eight : c.loop-draw._draw ≡ 8 = omega arith in
    all_held c.args.held.now c.args.words.now c.loop-draw.words
    (subst (λ n. Drawn c.args.held.now c.args.words.now c.loop-draw.words n) eight c.loop-draw.invariant)

pub returns-clause-id : goal.returns-clause-id
unfolding new_id
returns-clause-id c = ap (option_map (λ (draw : List ℕ × ℕ). draw.0)) (all c).0

pub returns-clause-place : goal.returns-clause-place
unfolding place_drawn
returns-clause-place c =
    moved c.args.words.now c.loop-draw.words _ c.loop-draw.invariant.key c.loop-draw.invariant.stream
    ((all c).1 ∙ sym (ap (λ (o : Option (List ℕ × ℕ)). option_map_or (λ (draw : List ℕ × ℕ). draw.1) o (place_after c.args.words.now.word_pos 32)) (all c).0))
