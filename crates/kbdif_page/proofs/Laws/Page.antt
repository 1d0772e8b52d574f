-- Laws of the ring's page: where events stand, and what a put and a take leave of it.
use Rattle.std.proofs.Common.{◌≡◌, ℕ, ◌+◌, ◌-◌, ◌^◌, ◌<◌, ◌≤◌, true, leb, List, length, get_or, sym, ◌∙◌, subst, arith, length-drop}
use Rattle.std.proofs.Common.{length-take, get_or-drop, get_or-take, ext_get_or, leb-true}
use mathlib.Core.Bool.{and-eq-true_iff}
use native.Mathlib.Decide.{dec_lt}
use Rattle.copying.specs.Copying.{overwrite, Agree}
use Rattle.words.specs.Words.{u32_bytes}
use Rattle.copying.proofs.Laws.Overwrite.{overwrite-length, overwrite_inside, overwrite-before, overwrite-after}
use Rattle.words.proofs.Laws.Word.{agree_u32, u32_back}
use Rattle.kbdif_events.specs.Event.{event_length, between}
use Rattle.kbdif_page.specs.Page.{page_length, ring_length, in_cons_of, in_prod_of, with_in_cons, with_in_prod, event_place, event_bytes_at}
use Rattle.kbdif_page.specs.Page.{most_contacts, is_contact_limit}

-- ---- stretches

module _ (at count : ℕ) where
  between-length : (bytes : List ℕ) → at + count ≤ length bytes → length (between bytes at (at + count)) ≡ count
  between-length bytes h = simp (length-take, length-drop) (omega arith)

  between_at : (bytes : List ℕ) (i : ℕ) → i < count → get_or (between bytes at (at + count)) i 0 ≡ get_or bytes (at + i) 0
  between_at bytes i h = get_or-take (at + count - at) _ i 0 (omega arith) ∙ get_or-drop at bytes i 0

  -- two buffers that agree on a stretch have the same stretch
  pub agree-between : (left right : List ℕ) → at + count ≤ length left → at + count ≤ length right → Agree left right at count
      → between left at (at + count) ≡ between right at (at + count)
  agree-between left right h k same =
      let l = between-length left h in
      let r = between-length right k in
      ext_get_or 0 _ _ (l ∙ sym r) (λ i m.
      let n : i < count = omega arith in
      between_at left i n ∙ same (at + i) (omega arith) (omega arith) ∙ sym (between_at right i n))

-- a stretch that was written is there
pub overwrite-between : (bytes : List ℕ) (at : ℕ) (stretch : List ℕ) → at + length stretch ≤ length bytes
    → between (overwrite bytes at stretch) at (at + length stretch) ≡ stretch
overwrite-between bytes at stretch h =
    let size = overwrite-length bytes at stretch h in
    let n = between-length at (length stretch) (overwrite bytes at stretch) (omega arith) in
    ext_get_or 0 _ stretch n (λ i m.
    let k : i < length stretch = omega arith in
    between_at at (length stretch) (overwrite bytes at stretch) i k ∙ overwrite_inside bytes at stretch i (omega arith) k)

-- ---- contact limits

pub limit_positive : (limit : ℕ) → is_contact_limit limit ≡ true → 1 ≤ limit
unfolding is_contact_limit
limit_positive limit h = leb-true 1 limit ((and-eq-true_iff (leb 1 limit) (leb limit most_contacts)).0 h).0

pub limit_small : (limit : ℕ) → is_contact_limit limit ≡ true → limit ≤ most_contacts
unfolding is_contact_limit
limit_small limit h = leb-true limit most_contacts ((and-eq-true_iff (leb 1 limit) (leb limit most_contacts)).0 h).1

-- ---- places

-- fewer than 51 events apart, one ends before the other begins
pub places_apart : (index later : ℕ) → index < later → later < index + ring_length → event_place later < event_place index + event_length
    → event_place later + event_length ≤ event_place index
places_apart index later h k near = omega arith

module _ (page : List ℕ) (size : length page ≡ page_length) where
  -- ---- a take moves in_cons

  module _ (next : ℕ) where
    pub cons_length : length (with_in_cons page next) ≡ page_length
    cons_length = overwrite-length page 0 (u32_bytes next) (omega arith) ∙ size

    pub cons_moved : next < 2 ^ 32 → in_cons_of (with_in_cons page next) ≡ next
    cons_moved h = u32_back page 0 next h (omega arith)

    elsewhere : (at count : ℕ) → 4 ≤ at → Agree (with_in_cons page next) page at count
    elsewhere at count h = overwrite-after page 0 (u32_bytes next) at count (omega arith) h

    pub cons_prod : in_prod_of (with_in_cons page next) ≡ in_prod_of page
    cons_prod = agree_u32 (with_in_cons page next) page 4 (elsewhere 4 4 (omega arith))

    pub cons_event : (index : ℕ) → event_bytes_at (with_in_cons page next) index ≡ event_bytes_at page index
    cons_event index =
        agree-between (event_place index) event_length (with_in_cons page next) page (omega (arith, cons_length)) (omega arith)
        (elsewhere (event_place index) event_length (omega arith))

  -- ---- a put writes its event, and then in_prod

  module _ (in_prod : ℕ) (event : List ℕ) (long : length event ≡ event_length) (next : ℕ) where
    written : List ℕ
    written = overwrite page (event_place in_prod) event

    fits : event_place in_prod + length event ≤ length page
    fits = omega arith

    written-length : length written ≡ page_length
    unfolding written
    written-length = overwrite-length page (event_place in_prod) event fits ∙ size

    abbrev after : List ℕ
    after = with_in_prod (overwrite page (event_place in_prod) event) next

    pub put-length : length after ≡ page_length
    unfolding written
    put-length = overwrite-length written 4 (u32_bytes next) (omega (arith, written-length)) ∙ written-length

    pub put-moved : next < 2 ^ 32 → in_prod_of after ≡ next
    unfolding written
    put-moved h = u32_back written 4 next h (omega (arith, written-length))

    pub put_cons : in_cons_of after ≡ in_cons_of page
    unfolding written
    put_cons =
        agree_u32 after written 0 (overwrite-before written 4 (u32_bytes next) 0 4 (omega (arith, written-length)) (omega arith))
        ∙ agree_u32 written page 0 (overwrite-before page (event_place in_prod) event 0 4 (omega (arith, fits)) (omega arith))

    behind : (index : ℕ) → event_bytes_at after index ≡ event_bytes_at written index
    unfolding written
    behind index =
        agree-between (event_place index) event_length after written (omega (arith, put-length)) (omega (arith, written-length))
        (overwrite-after written 4 (u32_bytes next) (event_place index) event_length (omega (arith, written-length)) (omega arith))

    pub put_same : event_bytes_at after in_prod ≡ event
    unfolding written
    put_same = behind in_prod ∙ subst (λ (n : ℕ). between written (event_place in_prod) (event_place in_prod + n) ≡ event) long
        (overwrite-between page (event_place in_prod) event fits)

    pub put_other : (index : ℕ) → index < in_prod → in_prod < index + ring_length → event_bytes_at after index ≡ event_bytes_at page index
    unfolding written
    put_other index h k =
        behind index
        ∙ agree-between (event_place index) event_length written page (omega (arith, written-length)) (omega arith)
        (apart (dec_lt (event_place in_prod) (event_place index + event_length)))
      where
        apart : Dec (event_place in_prod < event_place index + event_length) → Agree written page (event_place index) event_length
        apart (no n) =
            overwrite-before page (event_place in_prod) event (event_place index) event_length (omega (arith, fits)) (omega arith)
        apart (yes n) = overwrite-after page (event_place in_prod) event (event_place index) event_length (omega (arith, fits))
            (rw long (places_apart index in_prod h k n))
