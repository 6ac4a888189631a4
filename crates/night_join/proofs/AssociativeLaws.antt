-- Joining is associative, refusals included; totals of no lines are neutral; exchanged sides differ in the place
-- alone.
use Rattle.std.proofs.Common.{Ok, Err}
use Rattle.std.proofs.Common.{◌≡◌, ℕ, ◌+◌, ◌<◌, ◌≤◌, max, ltb, sym, ap, ◌∙◌, arith, ltb-false, ltb-true, le-ltb, lt-ltb}
use Rattle.words.specs.Loop.{pick}
use Rattle.night_totals.specs.declared.totals.Totals.{Totals}
use Rattle.night_totals.proofs.FormLaws.{split}
use Rattle.night_join.specs.declared.joining.JoinError.TheVariants as join_error
use Rattle.night_join.specs.Join.{Fit, place_of_both, sum_totals, join_of, then_join, join_then}
use Rattle.night_join.proofs.JoinLaws.{good, left-many, join-few}
use Rattle.night_join.proofs.JoinLaws.{each, sum-good, sum-fit}
use Rattle.night_join.proofs.PlaceLaws.{key, place-by-key, key-sum, place-assoc}

module _ (a b c : Totals) (f : Fit a) (g : Fit b) (h : Fit c) where
  -- where there are few enough lines
  module _ (few : a.lines + b.lines + c.lines ≤ 65535) where
    place_same : place_of_both (sum_totals a b) c ≡ place_of_both a (sum_totals b c)
    unfolding sum_totals
    place_same =
        let x = good a f in
        let y = good b g in
        let z = good c h in
        let ab = sum-good a b f g (omega arith) in
        let bc = sum-good b c g h (omega arith) in
        place-by-key (sum_totals a b) c ab z
        ∙ ap (λ k. pick (ltb k (key c)) (a.lines + b.lines + c.place) (place_of_both a b)) (key-sum a b x y)
        ∙ ap (λ p. pick (ltb (max (key a) (key b)) (key c)) (a.lines + b.lines + c.place) p) (place-by-key a b x y)
        ∙ place-assoc (key a) (key b) (key c) a.lines b.lines a.place b.place c.place
        ∙ ap (λ p. pick (ltb (key a) (max (key b) (key c))) (a.lines + p) a.place) (sym (place-by-key b c y z))
        ∙ ap (λ k. pick (ltb (key a) k) (a.lines + place_of_both b c) a.place) (sym (key-sum b c y z))
        ∙ sym (place-by-key a (sum_totals b c) x bc)

    same : (u v w : ℕ) → u + v + w ≡ u + (v + w)
    same u v w = omega arith

    sums_same : sum_totals (sum_totals a b) c ≡ sum_totals a (sum_totals b c)
    unfolding sum_totals
    sums_same =
        λ i.
        each (λ field. same (field a) (field b) (field c) i) (largest-same a.largest b.largest c.largest i)
        (place_same i)
      where
        largest-same : (u v w : ℕ) → max (max u v) w ≡ max u (max v w)
        largest-same u v w = omega arith

    left-few : then_join (join_of a b) c ≡ Ok (sum_totals (sum_totals a b) c)
    unfolding then_join sum_totals
    left-few =
        ap (λ j. then_join j c) (join-few a b f g (le-ltb 65535 (a.lines + b.lines) (omega arith)))
        ∙ join-few (sum_totals a b) c (sum-fit a b f g (omega arith)) h
        (le-ltb 65535 (a.lines + b.lines + c.lines) few)

    right-few : join_then a (join_of b c) ≡ Ok (sum_totals a (sum_totals b c))
    unfolding join_then sum_totals
    right-few =
        ap (λ j. join_then a j) (join-few b c g h (le-ltb 65535 (b.lines + c.lines) (omega arith)))
        ∙ join-few a (sum_totals b c) f (sum-fit b c g h (omega arith))
        (le-ltb 65535 (a.lines + (b.lines + c.lines)) (omega arith))

  -- where there are too many
  module _ (many : 65535 < a.lines + b.lines + c.lines) where
    left_over : then_join (join_of a b) c ≡ Err join_error.TooMany
    unfolding then_join sum_totals
    left_over =
        split (ltb 65535 (a.lines + b.lines))
        (λ t. ap (λ j. then_join j c) (sym (left-many a b f g t)))
        (λ t. ap (λ j. then_join j c) (join-few a b f g t)
        ∙ sym (left-many (sum_totals a b) c (sum-fit a b f g (ltb-false _ _ t)) h
        (lt-ltb 65535 (a.lines + b.lines + c.lines) many)))

    right-over : join_then a (join_of b c) ≡ Err join_error.TooMany
    unfolding join_then sum_totals
    right-over =
        split (ltb 65535 (b.lines + c.lines))
        (λ t. ap (λ j. join_then a j) (sym (left-many b c g h t)))
        (λ t. ap (λ j. join_then a j) (join-few b c g h t)
        ∙ sym (left-many a (sum_totals b c) f (sum-fit b c g h (ltb-false _ _ t))
        (lt-ltb 65535 (a.lines + (b.lines + c.lines)) (omega arith))))

  pub associative-proof : then_join (join_of a b) c ≡ join_then a (join_of b c)
  associative-proof =
      split (ltb 65535 (a.lines + b.lines + c.lines))
      (λ t. let m = ltb-true _ _ t in left_over m ∙ sym (right-over m))
      (λ t. let m = ltb-false _ _ t in left-few m ∙ ap Ok (sums_same m) ∙ sym (right-few m))
