-- What the rule's steps give and are refused by, from the answers of the parts that they are made of. Assumes nothing.
use Rattle.std.specs.Prelude.{ℕ, ◌≡◌, refl, Float}
use Rattle.std.proofs.Common.{sym, ◌∙◌}
use Rattle.std.specs.Float.{binary64}
use Rattle.std.specs.Float.Ieee.{add, mul, div}
use Rattle.checked.specs.Checked.{Checked, first, nine, finite, Due, due, refused, answered}
use Rattle.checked.specs.Laws.{zero_first, rules as checked_rules}
use Rattle.checked.specs.Numbers.{float, half, one}
use Rattle.checked.specs.Loops.{fold_c}
use Rattle.checked.specs.Told.{number}
use Rattle.checked.specs.ToldLaws.{none_met, value_is, met_is, gives, rules as told_rules}
use Rattle.checked.specs.declared.Refusal.{Refusal}
use Rattle.integrals.specs.Gauss.{pair_c, pair_at_c, panel_c, panel_at_c, along_c}
use Rattle.integrals.specs.Laws.{low, high, pair_refusal}

-- ---- a pair of nodes
module _ {A : Type 0} (step : Float → Float → A → Checked A) (h mid x wgt : Float) (a : A) where
  -- where the lower one lies is refused, or where the upper one does
  pub pair_low : (r : Refusal) → refused (number r) ≡ answered (finite (low h mid x)) → (pair_c step h mid x wgt a).refusal ≡ number r
  pair_low r e = pair_refusal step h mid x wgt a ∙ rw (met_is _ _ e) (simp told_rules)

  module _ (l : Float) (at-low : due l ≡ answered (finite (low h mid x))) where
    pub pair_high : (r : Refusal) → refused (number r) ≡ answered (finite (high h mid x)) → (pair_c step h mid x wgt a).refusal ≡ number r
    pair_high r e = pair_refusal step h mid x wgt a ∙ rw (none_met _ _ at-low, met_is _ _ e) (simp told_rules)

    module _ (u : Float) (at-high : due u ≡ answered (finite (high h mid x))) where
      -- the step at the lower one is refused, or the step at the upper one
      pub pair_first : (r : Refusal) → refused (number r) ≡ answered (step wgt l a) → (pair_c step h mid x wgt a).refusal ≡ number r
      pair_first r e = pair_refusal step h mid x wgt a ∙ rw (none_met _ _ at-low, none_met _ _ at-high, value_is _ _ at-low, met_is _ _ e) (simp told_rules)

      module _ (b : A) (after-low : due b ≡ answered (step wgt l a)) where
        pub pair_second : (r : Refusal) → refused (number r) ≡ answered (step wgt u b) → (pair_c step h mid x wgt a).refusal ≡ number r
        pair_second r e = pair_refusal step h mid x wgt a ∙ rw (none_met _ _ at-low, none_met _ _ at-high, value_is _ _ at-low, value_is _ _ at-high, none_met _ _ after-low, value_is _ _ after-low, met_is _ _ e) (simp told_rules)

        -- none is
        pub pair_done : (c : A) → due c ≡ answered (step wgt u b) → due c ≡ answered (pair_c step h mid x wgt a)
        pair_done c e = gives _ _
            (pair_refusal step h mid x wgt a ∙ rw (none_met _ _ at-low, none_met _ _ at-high, value_is _ _ at-low, value_is _ _ at-high, none_met _ _ after-low, value_is _ _ after-low, none_met _ _ e) (simp told_rules))
            (unfold pair_c in rw (value_is _ _ at-low, value_is _ _ at-high, value_is _ _ after-low) (value_is _ _ e))

-- ---- a panel and a path are refused by what comes before their loops, or are as these are
module _ {A : Type 0} (step : Float → Float → Float → A → Checked A) (a : A) where
  module _ (h : Float) (i : ℕ) where
    abbrev middle : Float
    middle = mul binary64 h (add binary64 (float i) half)

    panel_refusal : (panel_at_c step h i a).refusal ≡ first (nine middle) (fold_c 4 (pair_at_c (step h) h middle) a).refusal
    unfolding panel_at_c panel_c
    panel_refusal = simp checked_rules

    pub panel_none : (r : Refusal) → refused (number r) ≡ answered (finite middle) → (panel_at_c step h i a).refusal ≡ number r
    panel_none r e = panel_refusal ∙ rw (met_is _ _ e) (simp told_rules)

    -- what the loop answers is what the panel does
    pub panel_goes : (mid : Float) (d : Due A) → due mid ≡ answered (finite middle) → d ≡ answered (fold_c 4 (pair_at_c (step h) h mid) a) → d ≡ answered (panel_at_c step h i a)
    panel_goes mid d e is =
        is
        ∙ rw (sym (value_is _ _ e))
        (simp (panel_refusal, none_met _ _ e, zero_first) (unfold panel_at_c panel_c in refl))

  module _ (n : ℕ) where
    abbrev long : Float
    long = div binary64 one (float n)

    along_refusal : (along_c step n a).refusal ≡ first (nine long) (fold_c n (panel_at_c step long) a).refusal
    unfolding along_c
    along_refusal = simp checked_rules

    pub along_none : (r : Refusal) → refused (number r) ≡ answered (finite long) → (along_c step n a).refusal ≡ number r
    along_none r e = along_refusal ∙ rw (met_is _ _ e) (simp told_rules)

    pub along_goes : (h : Float) (d : Due A) → due h ≡ answered (finite long) → d ≡ answered (fold_c n (panel_at_c step h) a) → d ≡ answered (along_c step n a)
    along_goes h d e is =
        is
        ∙ rw (sym (value_is _ _ e))
        (simp (along_refusal, none_met _ _ e, zero_first) (unfold along_c in refl))
