-- The theorem of delivery applied to the run: its premises are computed, but that the calls belong, which mostly holds in any world.
use mathlib.Core.Path.{refl}
use mathlib.Core.List.{[], ◌∷◌, ◌++◌}
use lib.ListN.{replicate}
use Rattle.copying.specs.Copying.{overwrite}
use Rattle.answers.specs.Refusals.{first_refusal}
use Rattle.geometry.specs.Geometry.{is_record_size, is_entry_size, allowed}
use Rattle.bits.specs.Bits.{bit}
use Rattle.records.specs.Event.{event_bytes, event_at, events_from}
use Rattle.records.specs.Ring.{put_record}
use Rattle.records.specs.Put.{put_records, index_after}
use Rattle.entries.specs.Offer.{offers_code, is_offered}
use Rattle.assembly.specs.Kind.{dev_kind, kind_of}
use Rattle.assembly.specs.Transition.{spoiled, joined, reported, without_slot}
use Rattle.assembly.specs.Collect.{collected}
use Rattle.reading.specs.Reading.{is_valid_area, reading_refusal}
use Rattle.reading.specs.Oldest.{oldest_of}
use Rattle.driver.specs.Step.{is_driver, is_valid_step, step_of}
use Rattle.device.specs.Revision.{revision_for}
use Rattle.device.specs.State.{client_rev_rule, current_rule, is_device}
use Rattle.device.specs.Call.{is_valid_pages, is_valid_call}
use Rattle.packets.specs.Packet.{all_offered}
use Rattle.packets.specs.Rule.{packet_answer, packet_of}
use Rattle.hotplug.specs.Add.{add_answer, add_of}
use Rattle.hotplug.specs.Remove.{remove_answer, remove_of}
use Rattle.access.specs.Access.{access_answer}
use Rattle.access.specs.Place.{place_in, place_of}
use Rattle.switch_on.specs.SwitchOn.{taken_from, switch_on}
use Rattle.registers.specs.Read.{read_of}
use Rattle.registers.specs.Write.{control_of, client_rev_of, write_of}
use Rattle.delivery.specs.World.{World, write, step, call}
use Rattle.delivery.specs.Log.{after}
use Rattle.delivery.specs.Premises.{IsFresh, AllBelong}
use Rattle.delivery.proofs.Laws.Delivery.{delivery}
use Rattle.delivery_example.specs.Setting.{small}
use Rattle.delivery_example.specs.Revision2.{before, start, motion, accesses, refusals, reads, later, calls, InRevision2}
use Rattle.delivery_example.proofs.Laws.Belong.{is_packet, belong_then, steps}

-- ---- the calls belong

refusals_belong : (world : World) → AllBelong small world refusals
refusals_belong world = (is_packet (replicate 32 (motion 1)), (is_packet (replicate 32 (motion 2)), (tt, (tt, tt))))

later_belong : (world : World) → AllBelong small world later
later_belong world = (is_packet (motion 3 ∷ []), (tt, (tt, (tt, (is_packet (motion 5 ∷ []), (is_packet (motion 4 ∷ motion 4 ∷ []), tt))))))

-- The worlds between.
abbrev after_accesses : World
after_accesses = after small start accesses

abbrev after_refusals : World
after_refusals = after small after_accesses refusals

abbrev after_steps : World
after_steps = after small after_refusals (replicate 37 step)

abbrev after_reads : World
after_reads = after small after_steps (write 0x1000 4 36 ∷ [])

-- the writes leave the device on and the read pointer where it was
accesses_belong : AllBelong small start accesses
unfolding overwrite first_refusal is_record_size is_entry_size allowed bit event_bytes event_at put_record put_records index_after
    revision_for client_rev_rule current_rule is_device is_valid_pages is_valid_call add_answer add_of access_answer place_in place_of
    taken_from switch_on
    control_of client_rev_of write_of read_of call
accesses_belong = (tt, (record { on = refl; same_read_pointer = refl }, (record { on = refl; same_read_pointer = refl }, tt)))

pointer_belongs : AllBelong small after_steps (write 0x1000 4 36 ∷ [])
unfolding overwrite first_refusal is_record_size is_entry_size allowed bit event_bytes event_at events_from put_record put_records
    index_after
    offers_code is_offered dev_kind kind_of spoiled joined reported without_slot collected is_valid_area reading_refusal oldest_of
    is_driver is_valid_step step_of revision_for client_rev_rule current_rule is_device is_valid_pages is_valid_call all_offered
    packet_answer packet_of
    add_answer add_of remove_answer remove_of access_answer place_in place_of taken_from switch_on control_of client_rev_of write_of read_of
    call
pointer_belongs = (record { on = refl; same_read_pointer = refl }, tt)

reads_belong : AllBelong small after_refusals reads
reads_belong = belong_then small (replicate 37 step) (write 0x1000 4 36 ∷ []) after_refusals (steps small 37 after_refusals) pointer_belongs

end_belongs : AllBelong small after_reads (later ++ replicate 15 step)
end_belongs =
    belong_then small later (replicate 15 step) after_reads (later_belong after_reads) (steps small 15 (after small after_reads later))

all_belong : AllBelong small start calls
all_belong =
    belong_then small accesses (refusals ++ (reads ++ (later ++ replicate 15 step))) start accesses_belong
    (belong_then small refusals (reads ++ (later ++ replicate 15 step)) after_accesses (refusals_belong after_accesses)
    (belong_then small reads (later ++ replicate 15 step) after_refusals reads_belong end_belongs))

-- ---- the run

pub in_revision_2 : InRevision2
unfolding overwrite first_refusal is_record_size is_entry_size allowed bit event_bytes event_at events_from put_record put_records
    index_after
    offers_code is_offered dev_kind kind_of spoiled joined reported without_slot collected is_valid_area reading_refusal oldest_of
    is_driver is_valid_step step_of revision_for client_rev_rule current_rule is_device is_valid_pages is_valid_call all_offered
    packet_answer packet_of
    add_answer add_of remove_answer remove_of access_answer place_in place_of taken_from switch_on control_of client_rev_of write_of read_of
    call
in_revision_2 =
    let fresh : IsFresh before.collector = record { is_fresh = refl; size = refl } in
    record {
      is_allowed = refl;
      is_fresh = fresh;
      is_off = refl;
      is_on = refl;
      all_belong = all_belong;
      after_list = delivery small refl before fresh refl 0x100 4 1 refl calls all_belong;
      is_answered = refl;
      is_received = refl;
      is_sent = refl;
      ends_dry = refl;
    }
