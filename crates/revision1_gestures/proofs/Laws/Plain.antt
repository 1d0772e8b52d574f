-- A plain packet, by its parts. An event that leaves it not plain leaves it so to its end: no event takes a repetition back.
use Prim.Native.Nat.{ℕ}
use mathlib.Core.Path.{◌≡◌, refl, sym, ap, ◌∙◌}
use mathlib.Core.Bool.{Bool, true, false, not, ◌&&◌, ◌||◌, true≢false, false≢true}
use mathlib.Core.List.{List, [], ◌∷◌}
use borrow.Author.Tests.{not-true}
use Rattle.geometry.proofs.Laws.Allowed.{both}
use Rattle.records.specs.declared.Event.{Event}
use Rattle.records.specs.Codes.{ev_rel, ev_abs, rel_x, rel_y, rel_wheel, abs_x, abs_y}
use Rattle.revision1_gestures.specs.declared.Axis.{Axis}
use Rattle.revision1_gestures.specs.declared.Gesture.{Gesture}
use Rattle.revision1_gestures.specs.Gesture.{is, is_known, all_known}
use Rattle.revision1_gestures.specs.Scan.{with_unknown, axis_with, gesture_with, read_with}
use Rattle.revision1_gestures.specs.Form.{is_repeated, is_plain}
use Rattle.revision1_gestures.proofs.Laws.Scan.{axis_from, scanned}

-- ---- the parts

pub record Plain (gesture : Gesture) : Type 0 where
  pub knows : gesture.known ≡ true
  pub relative_x : gesture.relative_x.repeated ≡ false
  pub relative_y : gesture.relative_y.repeated ≡ false
  pub absolute_x : gesture.absolute_x.repeated ≡ false
  pub absolute_y : gesture.absolute_y.repeated ≡ false
  pub wheel : gesture.wheel.repeated ≡ false

neither : (left right : Bool) → (left || right) ≡ false → (left ≡ false) × (right ≡ false)
neither true right h = absurd (true≢false h)
neither false right h = (refl, h)

pub plain_parts : (gesture : Gesture) → is_plain gesture ≡ true → Plain gesture
plain_parts gesture h =
    let parts = both gesture.known (not (is_repeated gesture)) h in
    let first = neither gesture.relative_x.repeated _ (not-true (is_repeated gesture) parts.1) in
    let second = neither gesture.relative_y.repeated _ first.1 in
    let third = neither gesture.absolute_x.repeated _ second.1 in
    let fourth = neither gesture.absolute_y.repeated gesture.wheel.repeated third.1 in
    record {
      knows = parts.0;
      relative_x = first.0;
      relative_y = second.0;
      absolute_x = third.0;
      absolute_y = fourth.0;
      wheel = fourth.1;
    }

plain_whole : {gesture : Gesture} → Plain gesture → is_plain gesture ≡ true
plain_whole p = rw (p.knows, p.relative_x, p.relative_y, p.absolute_x, p.absolute_y, p.wheel)

-- ---- one axis

stays_repeated : (kind code : ℕ) (axis : Axis) (events : List Event) → axis.given ≡ true → axis.repeated ≡ true
    → (axis_from kind code axis events).repeated ≡ true
stays_repeated kind code axis [] given again = again
stays_repeated kind code axis (event ∷ rest) given again = go (is kind code event) refl (λ now. stays_repeated kind code now rest)
  where
    go : (test : Bool) → is kind code event ≡ test
        → ((now : Axis) → now.given ≡ true → now.repeated ≡ true → (axis_from kind code now rest).repeated ≡ true)
        → (axis_from kind code axis (event ∷ rest)).repeated ≡ true
    go true e others =
        let now : Axis = record { given = true; repeated = axis.given; value = event.value } in
        let same : axis_with kind code event axis ≡ now = rw e in
        ap (λ (next : Axis). (axis_from kind code next rest).repeated) same ∙ others now refl given
    go false e others =
        let same : axis_with kind code event axis ≡ axis = rw e in
        ap (λ (next : Axis). (axis_from kind code next rest).repeated) same ∙ others axis given again

-- where the axis isn't repeated in the end, this event didn't repeat it
not_yet : (kind code : ℕ) (event : Event) (axis : Axis) (rest : List Event) → axis.repeated ≡ false
    → (axis_from kind code (axis_with kind code event axis) rest).repeated ≡ false → (axis_with kind code event axis).repeated ≡ false
not_yet kind code event axis rest once ends = go (is kind code event) refl axis.given refl
  where
    go : (test : Bool) → is kind code event ≡ test → (given : Bool) → axis.given ≡ given → (axis_with kind code event axis).repeated ≡ false
    go false e given g = rw e once
    go true e false g = rw e g
    go true e true g =
        let now : Axis = record { given = true; repeated = axis.given; value = event.value } in
        let same : axis_with kind code event axis ≡ now = rw e in
        let again = ap (λ (next : Axis). (axis_from kind code next rest).repeated) (sym same) ∙ ends in
        absurd (true≢false (sym (stays_repeated kind code now rest refl g) ∙ again))

-- ---- the whole

plain_before : (gesture : Gesture) (event : Event) (rest : List Event) → Plain gesture → Plain (scanned gesture (event ∷ rest))
    → Plain (gesture_with event gesture)
unfolding gesture_with all_known
plain_before gesture event rest now ends =
    let known = both gesture.known (is_known event && all_known rest) ends.knows in
    record {
      knows = rw (known.0, (both (is_known event) (all_known rest) known.1).0);
      relative_x = not_yet ev_rel rel_x event gesture.relative_x rest now.relative_x ends.relative_x;
      relative_y = not_yet ev_rel rel_y event gesture.relative_y rest now.relative_y ends.relative_y;
      absolute_x = not_yet ev_abs abs_x event gesture.absolute_x rest now.absolute_x ends.absolute_x;
      absolute_y = not_yet ev_abs abs_y event gesture.absolute_y rest now.absolute_y ends.absolute_y;
      wheel = not_yet ev_rel rel_wheel event gesture.wheel rest now.wheel ends.wheel;
    }

pub not_plain_after : (gesture : Gesture) (event : Event) (rest : List Event) → is_plain gesture ≡ true
    → is_plain (gesture_with event gesture) ≡ false → is_plain (scanned gesture (event ∷ rest)) ≡ false
not_plain_after gesture event rest now after = go (is_plain (scanned gesture (event ∷ rest))) refl
  where
    go : (test : Bool) → is_plain (scanned gesture (event ∷ rest)) ≡ test → is_plain (scanned gesture (event ∷ rest)) ≡ false
    go false e = e
    go true e =
        let before = plain_before gesture event rest (plain_parts gesture now) (plain_parts (scanned gesture (event ∷ rest)) e) in
        absurd (true≢false (sym (plain_whole before) ∙ after))

-- ---- one event more

module _ (event : Event) (gesture : Gesture) where
  pub reads_on : is_plain (gesture_with event gesture) ≡ true → read_with event gesture ≡ gesture_with event gesture
  unfolding read_with
  reads_on h = rw h

  pub stops : is_plain (gesture_with event gesture) ≡ false → read_with event gesture ≡ with_unknown gesture
  unfolding read_with
  stops h = rw h

  -- and back: by what was read it is known which of the two came
  pub went_on : (read_with event gesture).known ≡ true → is_plain (gesture_with event gesture) ≡ true
  unfolding read_with
  went_on known = go (is_plain (gesture_with event gesture)) refl
    where
      go : (test : Bool) → is_plain (gesture_with event gesture) ≡ test → is_plain (gesture_with event gesture) ≡ true
      go true e = e
      go false e = let unknown : false ≡ true = rw e at known in absurd (false≢true unknown)

  pub stopped : (read_with event gesture).known ≡ false → is_plain (gesture_with event gesture) ≡ false
  unfolding read_with
  stopped unknown = go (is_plain (gesture_with event gesture)) refl
    where
      go : (test : Bool) → is_plain (gesture_with event gesture) ≡ test → is_plain (gesture_with event gesture) ≡ false
      go false e = e
      go true e =
          let known : (gesture_with event gesture).known ≡ false = rw e at unknown in
          absurd (true≢false (sym (plain_parts (gesture_with event gesture) e).knows ∙ known))
