-- What a put does to a good ring.
use Prim.Native.Nat.{ℕ, suc, ◌+◌, ◌-◌, ◌≤◌, ◌<◌}
use mathlib.Core.Path.{◌≡◌, refl, ap, ◌∙◌}
use mathlib.Core.Bool.{Bool, true, false, false≢true}
use mathlib.Core.List.{List, [], ◌∷◌, ◌++◌}
use native.Mathlib.Omega.{arith}
use native.Mathlib.Decide.{ℕ_discrete, dec_lt}
use lib.Dec.{ltb}
use borrow.Author.Tests.{ne_eqb, le-ltb}
use Rattle.answers.specs.Answers.{done, invalid, malformed, bad_index, no_room}
use Rattle.answers.specs.Refusals.{first_refusal}
use Rattle.copying.specs.Copying.{overwrite}
use Rattle.kbdif_decode.specs.Decode.{event_at, event_refusals, decoded, may_be_put}
use Rattle.kbdif_page.specs.Page.{ring_length, in_cons_of, with_in_prod, next_index, distance, event_place, event_bytes_at}
use Rattle.kbdif_page.proofs.Laws.Page.{put-length, put-moved, put_cons, put_same, put_other}
use Rattle.kbdif.specs.Put.{put_refusals, put_answered}
use Rattle.kbdif.proofs.Laws.Put.{Accepted, accepted}
use Rattle.kbdif_order.specs.Order.{Ring, putting, after, put, entry_of, is_sound}
use Rattle.kbdif_order.proofs.Waiting.{waiting_in, one_more, same_events, Good, near}

-- what may be put isn't refused when it is taken
put-fine : (bytes : List ℕ) (contact_limit : ℕ) → may_be_put (decoded bytes contact_limit) ≡ true
    → first_refusal (event_refusals bytes contact_limit) ≡ done
put-fine bytes contact_limit h = go (first_refusal (event_refusals bytes contact_limit)) refl
  where
    go : (number : ℕ) → first_refusal (event_refusals bytes contact_limit) ≡ number
        → first_refusal (event_refusals bytes contact_limit) ≡ done
    go number e = elim (ℕ_discrete number done) [
      | yes z ↦ e ∙ z
      | no n ↦ absurd (false≢true (rw (e, ne_eqb number done n) at h))
    ]

-- where the index is possible, no put is answered 10
not_bad_index : (a b c d f : Bool) → first_refusal
    ((a, invalid) ∷ (b, invalid) ∷ (c, invalid) ∷ (d, malformed) ∷ (false, bad_index) ∷ (f, no_room) ∷ []) ≡ bad_index → ⊥
unfolding first_refusal
not_bad_index true b c d f e = omega arith
not_bad_index false true c d f e = omega arith
not_bad_index false false true d f e = omega arith
not_bad_index false false false true f e = omega arith
not_bad_index false false false false true e = omega arith
not_bad_index false false false false false e = omega arith

module _ (contact_limit : ℕ) (ring : Ring) (event : List ℕ) where
  abbrev pub put_number : ℕ
  put_number = first_refusal (put_refusals ring.page ring.in_prod contact_limit event)

  -- ---- refused

  module _ (refused : put_number ≡ done → ⊥) where
    pub put_stays : after contact_limit ring (putting event) ≡ ring
    unfolding put_answered
    put_stays = rw (ne_eqb put_number done refused)

    pub put_refused : entry_of contact_limit ring (putting event) ≡ put event put_number
    unfolding put_answered
    put_refused = rw (ne_eqb put_number done refused)

  pub put_sound : {left : ℕ} → Good contact_limit left ring → is_sound (put event put_number) ≡ true
  put_sound good =
      let early = good.early in
      let few = good.few in
      let d = near ring.in_prod ring.in_cons good.ordered (omega arith) in
      let index : ltb ring_length (distance ring.in_prod (in_cons_of ring.page)) ≡ false =
      rw (good.cons_held, d) (le-ltb ring_length (ring.in_prod - ring.in_cons) (omega arith)) in
      rw (ne_eqb put_number bad_index (λ e. not_bad_index _ _ _ _ _ (rw index at e)))

  -- ---- accepted

  pub put-accepted : put_number ≡ done → entry_of contact_limit ring (putting event) ≡ put event done
  unfolding put_answered
  put-accepted none = rw none

  abbrev pub filled : Ring
  filled = record {
    page = with_in_prod (overwrite ring.page (event_place ring.in_prod) event) (suc ring.in_prod);
    in_prod = suc ring.in_prod;
    in_cons = ring.in_cons;
  }

  module _ (left : ℕ) (good : Good contact_limit (suc left) ring) (none : put_number ≡ done) where
    next_is : next_index ring.in_prod ≡ suc ring.in_prod
    next_is =
        let e = good.early in
        omega arith

    pub put_goes_on : after contact_limit ring (putting event) ≡ filled
    unfolding put_answered
    put_goes_on = rw (none, next_is)

    ok : Accepted ring.page ring.in_prod contact_limit event
    ok = accepted ring.page ring.in_prod contact_limit event none

    room : ring.in_prod < ring.in_cons + ring_length
    room =
        let early = good.early in
        let d = near ring.in_prod ring.in_cons good.ordered (omega arith) in
        let e : distance ring.in_prod ring.in_cons < ring_length = rw good.cons_held at ok.room in
        omega arith

    same : event_bytes_at filled.page ring.in_prod ≡ event
    same = put_same ring.page good.size ring.in_prod event ok.event_size (suc ring.in_prod)

    other : (index : ℕ) → ring.in_cons ≤ index → index < ring.in_prod → event_bytes_at filled.page index ≡ event_bytes_at ring.page index
    other index low high = put_other ring.page good.size ring.in_prod event ok.event_size (suc ring.in_prod) index
        high (omega (arith, room))

    pub put_good : Good contact_limit left filled
    put_good =
        let early = good.early in
        record {
          size = put-length ring.page good.size ring.in_prod event ok.event_size (suc ring.in_prod);
          cons_held = put_cons ring.page good.size ring.in_prod event ok.event_size (suc ring.in_prod) ∙ good.cons_held;
          prod_held = put-moved ring.page good.size ring.in_prod event ok.event_size (suc ring.in_prod) (omega arith);
          ordered = omega (arith, good.ordered);
          few = omega (arith, room);
          early = omega arith;
          fine = λ index low high. still index low (dec_lt index ring.in_prod) high;
        }
      where
        still : (index : ℕ) → ring.in_cons ≤ index → Dec (index < ring.in_prod) → index < suc ring.in_prod
            → first_refusal (event_refusals (event_bytes_at filled.page index) contact_limit) ≡ done
        still index low (yes h) high =
            ap (λ (bytes : List ℕ). first_refusal (event_refusals bytes contact_limit)) (other index low h) ∙ good.fine index low h
        still index low (no h) high =
            let e : index ≡ ring.in_prod = omega arith in
            ap (λ (i : ℕ). first_refusal (event_refusals (event_bytes_at filled.page i) contact_limit)) e
            ∙ ap (λ (bytes : List ℕ). first_refusal (event_refusals bytes contact_limit)) same
            ∙ put-fine event contact_limit ok.well_formed

    pub put_waits : waiting_in filled ≡ waiting_in ring ++ (event_at event ∷ [])
    put_waits =
        let h = good.ordered in
        let count : ℕ = ring.in_prod - ring.in_cons in
        let n : suc ring.in_prod - ring.in_cons ≡ suc count = omega arith in
        let e : ring.in_cons + count ≡ ring.in_prod = omega arith in
        let kept = same_events filled.page ring.page ring.in_cons count (λ i low high. other i low (omega arith)) in
        rw (n, one_more filled.page ring.in_cons count, e, same, kept)
