use Rattle.gate_audit.proofs.played.promises.Goals as goal

pub returns : goal.returns
returns c = λ steps w leads holds run. record {
  no_faults = c.no_batch_has_a_fault.ensures c.args.settings.now steps w c.comp-comp.ensures.served leads holds run;
  once = c.what_is_asked_is_done_once.ensures c.args.settings.now steps w c.comp-comp.ensures.served leads holds run;
  one_token = c.cancels_of_a_request_find_one_token.ensures c.args.settings.now steps w c.comp-comp.ensures.served leads
      holds run;
  within = c.orders_stay_within_what_was_accepted.ensures c.args.settings.now steps w c.comp-comp.ensures.served leads
      holds run;
  all_or_nothing = c.fill_or_kill_executes_all_or_nothing.ensures c.args.settings.now steps w c.comp-comp.ensures.served
      leads holds run;
  alike = c.at_rest_both_agree.ensures c.args.settings.now steps w c.comp-comp.ensures.served leads holds run;
}
