-- What is taken is what was put, in order.
use Prim.Native.Nat.{ℕ, suc}
use mathlib.Core.Path.{◌≡◌, refl, sym, ap, ◌∙◌, subst}
use mathlib.Core.Bool.{Bool, true, false, false≢true}
use mathlib.Core.List.{List, [], ◌∷◌, ◌++◌, append-nil}
use native.Mathlib.Decide.{ℕ_discrete}
use lib.ListN.{length}
use Rattle.answers.specs.Answers.{done}
use Rattle.kbdif_events.specs.declared.RingEvent.{RingEvent}
use Rattle.kbdif_decode.specs.Decode.{Event, Refused, event_at}
use Rattle.kbdif_page.specs.Page.{event_bytes_at}
use Rattle.kbdif_order.specs.Order.{Call, putting, taking, Ring, fresh, after, Entry, took}
use Rattle.kbdif_order.specs.Order.{entry_of, log_of, events_put, events_taken, is_nothing_to_read, Order}
use Rattle.kbdif_order.proofs.Log.{Run, nothing, put_count, put_logged, refused_count}
use Rattle.kbdif_order.proofs.Log.{refused_logged, take_count, take_logged, idle_logged}
use Rattle.kbdif_order.proofs.Waiting.{waiting_in, Good, fresh_good, none_waits as fresh-waits}
use Rattle.kbdif_order.proofs.Puts.{put_number, put_stays, put_refused, put_sound, filled}
use Rattle.kbdif_order.proofs.Puts.{put_goes_on, put-accepted, put_good, put_waits}
use Rattle.kbdif_order.proofs.Takes.{event, idle, taking_is, emptied, take_goes_on, take-answered}
use Rattle.kbdif_order.proofs.Takes.{take_good, take_waits, take_stays, take_refused, none_waits}

-- the log after a call, from what the call leaves and answers
step : (contact_limit : ℕ) (ring : Ring) (call : Call) (calls : List Call) {later : Ring} {entry : Entry}
    → after contact_limit ring call ≡ later → entry_of contact_limit ring call ≡ entry
    → log_of contact_limit ring (call ∷ calls) ≡ entry ∷ log_of contact_limit later calls
unfolding log_of
step contact_limit ring call calls e f = rw (e, f)

-- ---- every list of calls, from a good ring

abbrev RunFrom : ℕ → Ring → List Call → Bool → Type 0
RunFrom contact_limit ring calls dry = Run (log_of contact_limit ring calls) dry (waiting_in ring)

abbrev Claim : ℕ → List Call → Type 0
Claim contact_limit calls =
    (left : ℕ) (ring : Ring) (dry : Bool) → length (events_put (log_of contact_limit ring calls)) ≡ left → Good contact_limit left ring
    → (dry ≡ true → waiting_in ring ≡ []) → RunFrom contact_limit ring calls dry

module _ (contact_limit : ℕ) (calls : List Call) (rest : Claim contact_limit calls) (left : ℕ) (ring : Ring) (dry : Bool)
    (good : Good contact_limit left ring) where
  never : {P : Type 0} → false ≡ true → P
  never h = absurd (false≢true h)

  after-put : (bytes : List ℕ) → length (events_put (log_of contact_limit ring (putting bytes ∷ calls))) ≡ left
      → RunFrom contact_limit ring (putting bytes ∷ calls) dry
  after-put bytes count = elim (ℕ_discrete (put_number contact_limit ring bytes) done) [
    | no refused ↦
        let number : ℕ = put_number contact_limit ring bytes in
        let log = step contact_limit ring (putting bytes) calls (put_stays contact_limit ring bytes refused)
        (put_refused contact_limit ring bytes refused) in
        let n = ap (λ (log : List Entry). length (events_put log)) log
        ∙ ap length (refused_count (log_of contact_limit ring calls) dry (waiting_in ring) bytes number refused) in
        subst (λ (log : List Entry). Run log dry (waiting_in ring)) (sym log)
        (refused_logged _ dry _ bytes number refused (put_sound contact_limit ring bytes good)
        (rest left ring false (sym n ∙ count) good never))
    | yes none ↦
        let later : Ring = filled contact_limit ring bytes in
        let log = step contact_limit ring (putting bytes) calls refl (put-accepted contact_limit ring bytes none) in
        let fewer : ℕ = length (events_put (log_of contact_limit (after contact_limit ring (putting bytes)) calls)) in
        let n : left ≡ suc fewer =
        sym count ∙ ap (λ (log : List Entry). length (events_put log)) log ∙ put_count _ dry (waiting_in ring) bytes in
        let good' : Good contact_limit (suc fewer) ring = subst (λ (left : ℕ). Good contact_limit left ring) n good in
        let on : after contact_limit ring (putting bytes) ≡ later = put_goes_on contact_limit ring bytes fewer good' none in
        let run = rest fewer later false (ap (λ (ring : Ring). length (events_put (log_of contact_limit ring calls))) (sym on))
        (put_good contact_limit ring bytes fewer good' none) never in
        subst (λ (log : List Entry). Run log dry (waiting_in ring)) (sym log)
        (put_logged _ dry _ bytes
        (subst (λ (ring' : Ring). Run (log_of contact_limit ring' calls) false (waiting_in ring ++ (event_at bytes ∷ []))) (sym on)
        (subst (λ (waited : List RingEvent). Run (log_of contact_limit later calls) false waited)
        (put_waits contact_limit ring bytes fewer good' none) run)))
  ]

  after-take : length (events_put (log_of contact_limit ring (taking ∷ calls))) ≡ left → RunFrom contact_limit ring (taking ∷ calls) dry
  after-take count = elim (taking_is contact_limit left ring good) [
    | event some is ↦
        let later : Ring = emptied contact_limit left ring good in
        let oldest : RingEvent = event_at (event_bytes_at ring.page ring.in_cons) in
        let log = step contact_limit ring taking calls (take_goes_on contact_limit left ring good some is)
        (take-answered contact_limit left ring good some is) in
        let n = ap (λ (log : List Entry). length (events_put log)) log ∙ take_count _ dry (waiting_in ring) _ in
        let run = rest left later false (sym n ∙ count) (take_good contact_limit left ring good some is) never in
        subst (λ (log : List Entry). Run log dry (waiting_in ring)) (sym log)
        (subst (λ (waited : List RingEvent). Run (took (Event oldest) ∷ log_of contact_limit later calls) dry waited)
        (sym (take_waits contact_limit left ring good some is)) (take_logged _ dry _ oldest run))
    | idle number is no-event fine empty ↦
        let log = step contact_limit ring taking calls (take_stays contact_limit left ring good number is no-event)
        (take_refused contact_limit left ring good number is no-event) in
        let n = ap (λ (log : List Entry). length (events_put log)) log ∙ take_count _ dry (waiting_in ring) _ in
        let run = rest left ring (is_nothing_to_read (took (Refused number))) (sym n ∙ count) good
        (λ h. none_waits contact_limit left ring good (empty h)) in
        subst (λ (log : List Entry). Run log dry (waiting_in ring)) (sym log) (idle_logged _ dry _ number fine run)
  ]

runs : (contact_limit : ℕ) (calls : List Call) → Claim contact_limit calls
unfolding log_of
runs contact_limit [] left ring dry count good empty = nothing dry (waiting_in ring) empty
runs contact_limit (putting bytes ∷ calls) left ring dry count good empty =
    after-put contact_limit calls (runs contact_limit calls) left ring dry good bytes count
runs contact_limit (taking ∷ calls) left ring dry count good empty =
    after-take contact_limit calls (runs contact_limit calls) left ring dry good count

pub order : Order
order contact_limit calls early =
    let log : List Entry = log_of contact_limit fresh calls in
    let run = runs contact_limit calls (length (events_put log)) fresh false refl (fresh_good contact_limit (length (events_put log)) early)
    (λ h. absurd (false≢true h)) in
    let front : events_taken log ++ run.waiting ≡ events_put log =
    run.kept ∙ ap (λ (waited : List RingEvent). waited ++ events_put log) fresh-waits in
    record {
      waiting = run.waiting;
      front = front;
      whole = λ h. sym (append-nil (events_taken log)) ∙ ap (λ (events : List RingEvent). events_taken log ++ events) (sym (run.empty h))
          ∙ front;
      sound = run.sound;
    }
