use Rattle.std.proofs.Common.{◌≡◌, ◌+◌, List, ℕ, length, ap, take, ◌∙◌, arith, rules}
use Rattle.std.proofs.lemmas.List.{places, with_items_is}
use Rattle.journal_file.proofs.Filled.{filled, puts}
use Rattle.journal_file.proofs.window.read_behind.Goals as goal

pub returns-in-Ok : goal.returns-in-Ok
returns-in-Ok g c =
    let old : List ℕ = c.args.bytes.now.items in
    let long : length old ≡ c.len-size.result = search (rules, places) in
    let all : take c.len-size.result c.read_at.new.bytes ≡ old =
    c.in-Ok.ensures.front ∙ ap (take c.len-size.result) c.as_mut_slice.ensures.value
    ∙ filled _ old c.resize.new.self.items _ c.len-size.result (c.len-size.result + 65_536) c.resize.ensures.items long (omega arith) in
    puts _ _ old c.read_at.new.bytes c.truncate.new.self.items c.len-size.result c.in-Ok.count long c.in-Ok.ensures.fits
    all
    (c.truncate.ensures.items ∙ ap (take (c.len-size.result + c.in-Ok.count))
    (with_items_is c.resize.new.self c.read_at.new.bytes (search (rules, places))))
    c.in-Ok.ensures.ok c.in-Ok.ensures.end
