-- The definition asks for the rules in another grouping (call_tests): first those that the geometry bounds, then the others.
use Rattle.std.proofs.Common.{rules, sym}
use Rattle.device.proofs.Laws.Call.{call_tests}
use Rattle.device.proofs.Device.valid_call.Goals as goal

pub returns-in_err-layout-clause-tested : goal.returns-in_err-layout-clause-tested
returns-in_err-layout-clause-tested c =
    rw (← call_tests c.args.geometry c.args.self.now c.args.area_size c.args.page_size, sym c.in_err-layout.ensures.tested) (search rules)
