-- How each kind of entry changes what was put and what was taken.
use Prim.Native.Nat.{ℕ, suc}
use mathlib.Core.Path.{◌≡◌, refl, sym, ap, ◌∙◌}
use mathlib.Core.Bool.{Bool, true, false}
use mathlib.Core.List.{List, [], ◌∷◌, ◌++◌, append-nil, append_assoc}
use lib.ListN.{length}
use borrow.Author.Tests.{ne_eqb}
use Rattle.answers.specs.Answers.{done}
use Rattle.kbdif_events.specs.declared.RingEvent.{RingEvent}
use Rattle.kbdif_decode.specs.Decode.{Decoded, Event, Refused, event_at}
use Rattle.kbdif_order.specs.Order.{Entry, put, took, events_put, events_taken, is_nothing_to_read}
use Rattle.kbdif_order.specs.Order.{ends_with_nothing_to_read, is_sound, all_sound}

-- a log, from a ring in which so many events wait: what is taken, and then what waits, is what waited, and then what is put
pub record Run (log : List Entry) (dry : Bool) (waited : List RingEvent) : Type 0 where
  pub waiting : List RingEvent
  pub kept : events_taken log ++ waiting ≡ waited ++ events_put log
  pub empty : ends_with_nothing_to_read dry log ≡ true → waiting ≡ []
  pub sound : all_sound log ≡ true

pub nothing : (dry : Bool) (waited : List RingEvent) → (dry ≡ true → waited ≡ []) → Run [] dry waited
unfolding events_taken events_put ends_with_nothing_to_read all_sound
nothing dry waited h = record { waiting = waited; kept = sym (append-nil waited); empty = h; sound = refl }

module _ (log : List Entry) (dry : Bool) (waited : List RingEvent) where
  -- ---- a put

  pub put_count : (event : List ℕ) → length (events_put (put event done ∷ log)) ≡ suc (length (events_put log))
  unfolding events_put
  put_count event = refl

  pub put_logged : (event : List ℕ) → Run log false (waited ++ (event_at event ∷ [])) → Run (put event done ∷ log) dry waited
  unfolding events_taken events_put ends_with_nothing_to_read all_sound
  put_logged event run = record {
    waiting = run.waiting;
    kept = run.kept ∙ append_assoc waited (event_at event ∷ []) (events_put log);
    empty = run.empty;
    sound = run.sound;
  }

  module _ (event : List ℕ) (answer : ℕ) (refused : answer ≡ done → ⊥) where
    pub refused_count : events_put (put event answer ∷ log) ≡ events_put log
    unfolding events_put
    refused_count = rw (ne_eqb answer done refused)

    pub refused_logged : is_sound (put event answer) ≡ true → Run log false waited → Run (put event answer ∷ log) dry waited
    unfolding events_taken ends_with_nothing_to_read all_sound
    refused_logged fine run = record {
      waiting = run.waiting;
      kept = run.kept ∙ ap (λ (events : List RingEvent). waited ++ events) (sym refused_count);
      empty = run.empty;
      sound = rw fine run.sound;
    }

  -- ---- a take

  pub take_count : (found : Decoded) → length (events_put (took found ∷ log)) ≡ length (events_put log)
  unfolding events_put
  take_count found = refl

  pub take_logged : (event : RingEvent) → Run log false waited → Run (took (Event event) ∷ log) dry (event ∷ waited)
  unfolding events_taken events_put ends_with_nothing_to_read all_sound
  take_logged event run = record {
    waiting = run.waiting;
    kept =
        ap (λ (events : List RingEvent). event ∷ events) run.kept;
    empty = run.empty;
    sound = run.sound;
  }

  pub idle_logged : (number : ℕ) → is_sound (took (Refused number)) ≡ true → Run log (is_nothing_to_read (took (Refused number))) waited
      → Run (took (Refused number) ∷ log) dry waited
  unfolding events_taken events_put ends_with_nothing_to_read all_sound
  idle_logged number fine run = record { waiting = run.waiting; kept = run.kept; empty = run.empty; sound = rw fine run.sound }
