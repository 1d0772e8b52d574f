-- Demand 3, proved: the invariant holds after the switch-on, every call keeps it, and so it holds after a list.
use Prim.Native.Nat.{ℕ}
use mathlib.Core.Path.{◌≡◌, refl, sym, ap, subst, ◌∙◌}
use mathlib.Core.Bool.{Bool, true, false}
use mathlib.Core.List.{List, [], ◌∷◌, ◌++◌, append-nil, append_assoc}
use lib.Dec.{eqb}
use Rattle.answers.proofs.Choice.{either}
use Rattle.geometry.specs.declared.Geometry.{Geometry}
use Rattle.records.specs.declared.Event.{Event}
use Rattle.driver.proofs.Laws.Unknown.{same_step}
use Rattle.revision1_reader.proofs.Laws.Unknown.{same_take}
use Rattle.copy_out.proofs.Laws.Unknown.{same_copy}
use Rattle.entries.proofs.Laws.Lookup.{same_lookup}
use Rattle.device.specs.declared.Revision.{Revision}
use Rattle.delivery.specs.World.{World, Call, read, write, add, remove, packet, step, revision_in, call}
use Rattle.delivery.specs.Log.{Item, Entry, log_of, after, number_in, ends_with_nothing_to_read_from}
use Rattle.delivery.specs.Received.{receives, received_from, received_log, begun_from, begun_in}
use Rattle.delivery.specs.Sent.{Sender, Sends, sends, sent_from}
use Rattle.delivery.specs.Premises.{Belongs, AllBelong}
use Rattle.delivery.specs.Demand3.{sent_since, NoBadIndex, Delivery, Demand3}
use Rattle.delivery.proofs.Laws.Reads.{Reads, reads_pending}
use Rattle.delivery.proofs.Laws.Invariant.{Invariant, Kept, sender_of}
use Rattle.delivery.proofs.Laws.Access.{read_kept, write_kept}
use Rattle.delivery.proofs.Laws.Plug.{add_kept, remove_kept}
use Rattle.delivery.proofs.Laws.Packet.{packet_kept}
use Rattle.delivery.proofs.Laws.Step.{step_kept, reader-holds}
use Rattle.delivery.proofs.Laws.Start.{start-holds, start-sender}

kept : (geometry : Geometry) (world : World) {begun : List Event} {pending : List Item} → Invariant geometry world begun pending
    → (next : Call) → Belongs geometry world next → Kept geometry world begun pending next (call geometry world next)
kept geometry world h (read offset width) ok = read_kept geometry world h offset width
kept geometry world h (write offset width value) ok = write_kept geometry world h offset width value ok
kept geometry world h (add slot entry) ok = add_kept geometry world h slot entry
kept geometry world h (remove slot) ok = remove_kept geometry world h slot
kept geometry world h (packet slot events) ok = packet_kept geometry world h slot events ok
kept geometry world h step ok = step_kept geometry world h

-- no call changes the sender's revision
same_sender : (sender : Sender) (did : Call) (n : ℕ) → (sends sender did n).next.revision ≡ sender.revision
same_sender sender (read offset width) n = refl
same_sender sender (write offset width value) n = refl
same_sender sender (add slot entry) n = refl
same_sender sender (remove slot) n = refl
same_sender sender (packet slot events) n =
    let Same : Sends → Type 0 = λ now. now.next.revision ≡ sender.revision in
    either Same (eqb n 0) (λ e. refl) (λ e. either Same (eqb n 7) (λ f. refl) (λ f. refl))
same_sender sender step n = refl

-- After a list of calls, from a world in which something is pending.
record Along (geometry : Geometry) (world : World) (begun : List Event) (pending : List Item) (calls : List Call) : Type 0 where
  still : List Item
  invariant : Invariant geometry (after geometry world calls) (begun_from begun (log_of geometry world calls)) still
  log : received_from begun (log_of geometry world calls) ++ still
      ≡ pending ++ sent_from (sender_of world.device) (log_of geometry world calls)
  same_revision : revision_in (after geometry world calls) ≡ revision_in world
  dry : (before : Bool) → (before ≡ true → pending ≡ []) → ends_with_nothing_to_read_from before (log_of geometry world calls) ≡ true
      → still ≡ []
  no_bad_index : NoBadIndex (log_of geometry world calls)

-- the log of a call, then that of the rest
both_logs : (pending heard more still between new : List Item) {next sender : Sender} (log : List Entry)
    → more ++ still ≡ between ++ sent_from sender log → heard ++ between ≡ pending ++ new → sender ≡ next
    → (heard ++ more) ++ still ≡ pending ++ (new ++ sent_from next log)
both_logs pending heard more still between new {next} {sender} log later now same =
    append_assoc heard more still
    ∙ ap (λ (items : List Item). heard ++ items) later
    ∙ sym (append_assoc heard between (sent_from sender log))
    ∙ ap (λ (items : List Item). items ++ sent_from sender log) now
    ∙ append_assoc pending new (sent_from sender log)
    ∙ ap (λ (s : Sender). pending ++ (new ++ sent_from s log)) same

along : (geometry : Geometry) (calls : List Call) (world : World) {begun : List Event} {pending : List Item}
    → Invariant geometry world begun pending → AllBelong geometry world calls → Along geometry world begun pending calls
along geometry [] world {pending = pending} h ok = record {
  still = pending;
  invariant = h;
  log = sym (append-nil pending);
  same_revision = refl;
  dry = λ before none ends. none ends;
  no_bad_index = tt;
}
along geometry (next ∷ rest) world {begun} {pending} h ok =
    let result = call geometry world next in
    let k = kept geometry world h next ok.0 in
    let a = along geometry rest result.world k.invariant ok.1 in
    let log : List Entry = log_of geometry result.world rest in
    let now = receives begun result.answer in
    record {
      still = a.still;
      invariant = a.invariant;
      log = both_logs pending now.items (received_from now.begun log) a.still k.still _ log a.log k.log k.sender;
      same_revision = a.same_revision ∙ ap (λ (s : Sender). s.revision) k.sender
          ∙ same_sender (sender_of world.device) next (number_in result.answer);
      dry = λ before none ends. a.dry _ k.dry ends;
      no_bad_index = (k.not_ten, a.no_bad_index);
    }

pub delivery : Delivery
delivery geometry ok world fresh off offset width value on calls belong =
    let start : World = (call geometry world (write offset width value)).world in
    let a = along geometry calls start (start-holds geometry world fresh off offset width value on) belong in
    let log : List Entry = log_of geometry start calls in
    let last : World = after geometry start calls in
    let revision : Revision = revision_in start in
    let reads : Reads revision geometry last (begun_in log) a.still
    = subst (λ (revision : Revision). Reads revision geometry last (begun_in log) a.still) a.same_revision a.invariant.reads in
    let whole-log : received_log log ++ a.still ≡ sent_since start log
    = a.log ∙ ap (λ (sender : Sender). sent_from sender log) (start-sender geometry world fresh off offset width value on) in
    let with : List Item → List Item = λ items. received_log log ++ items in
    record {
      delivered = record {
        front = ap with (reads_pending geometry last (begun_in log) a.still revision reads) ∙ whole-log;
        all = λ ends. sym (append-nil (received_log log)) ∙ ap with (sym (a.dry false (λ z. refl) ends)) ∙ whole-log;
      };
      state_holds = record {
        device_holds = a.invariant.called;
        reader-holds = reader-holds geometry last a.invariant revision a.same_revision reads;
        same_revision = a.same_revision;
      };
      no_bad_index = a.no_bad_index;
    }

pub demand3 : Demand3
demand3 = record {
  delivery = delivery;
  step_independent = same_step;
  take_independent = same_take;
  copy_out_independent = same_copy;
  lookup_independent = same_lookup;
}
