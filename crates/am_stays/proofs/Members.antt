-- Who has a place among the three.
use Rattle.std.proofs.Common.{◌≡◌, ℕ, true, false, ◌||◌, ◌⊎◌, inl, inr}
use Rattle.std.specs.Prelude.{◌==◌}
use Rattle.am_stays.specs.Places.{Place, First, Second, Third}
use Rattle.am_stays.specs.Shadow.{Shadow, is_member, has_place}
use Rattle.am_stays.proofs.Tables.{or_left, or_right, apart, decide, eq_is, eq_refl, eq_true}

pub member_is : (members : Place → ℕ) (q : Place) → is_member members (members q) ≡ true
member_is members First = or_left (members First == members First) ((members Second == members First) || (members Third == members First)) (eq_refl (members First))
member_is members Second = or_right (members First == members Second) ((members Second == members Second) || (members Third == members Second)) (or_left (members Second == members Second) (members Third == members Second) (eq_refl (members Second)))
member_is members Third = or_right (members First == members Third) ((members Second == members Third) || (members Third == members Third)) (or_right (members Second == members Third) (members Third == members Third) (eq_refl (members Third)))

-- the place of an instance in an era, or that it has none
pub find_place : (s : Shadow) (g j : ℕ) → ((q : Place) × (s.member g q ≡ j) × (has_place s g j ≡ true)) ⊎ (((q : Place) → s.member g q ≡ j → ⊥) × (has_place s g j ≡ false))
find_place s g j =
    elim (decide (s.member g First == j)) [
      | inl a ↦ inl (First, eq_is (s.member g First) j a, or_left (s.member g First == j) ((s.member g Second == j) || (s.member g Third == j)) a)
      | inr a ↦
          elim (decide (s.member g Second == j)) [
            | inl b ↦ inl (Second, eq_is (s.member g Second) j b, or_right (s.member g First == j) ((s.member g Second == j) || (s.member g Third == j)) (or_left (s.member g Second == j) (s.member g Third == j) b))
            | inr b ↦
                elim (decide (s.member g Third == j)) [
                  | inl c ↦ inl (Third, eq_is (s.member g Third) j c, or_right (s.member g First == j) ((s.member g Second == j) || (s.member g Third == j)) (or_right (s.member g Second == j) (s.member g Third == j) c))
                  | inr c ↦ inr (all a b c, rw (a, b) c)
                ]
          ]
    ]
  where
    all : (s.member g First == j) ≡ false → (s.member g Second == j) ≡ false → (s.member g Third == j) ≡ false → (q : Place) → s.member g q ≡ j → ⊥
    all a b c First e = apart (s.member g First == j) (eq_true (s.member g First) j e) a
    all a b c Second e = apart (s.member g Second == j) (eq_true (s.member g Second) j e) b
    all a b c Third e = apart (s.member g Third == j) (eq_true (s.member g Third) j e) c
