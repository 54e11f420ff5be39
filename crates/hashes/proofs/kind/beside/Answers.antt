use Rattle.std.proofs.Common.{arith, bytes_eq, rules, tests}
use Rattle.std.proofs.lemmas.Iterator.{YieldsList-from_slice, YieldsList-from_zip}
use Rattle.std.proofs.lemmas.Iterator.Consumers.{YieldsList-at}
use Rattle.std.proofs.lemmas.Iterator.Search.{find_from_yields_List}
use Rattle.hashes.proofs.kind.beside.Goals as goal

pub returns : goal.returns
returns c =
    let rows = YieldsList-from_zip (YieldsList-at c.zip.ensures.first (YieldsList-from_slice _ c.iter.ensures.rest))
    (YieldsList-at c.zip.ensures.second (YieldsList-from_slice _ c.iter-2.ensures.rest)) in
    let found = find_from_yields_List (λ row. bytes_eq c.args.text.now row.0.now) c.find.new.self _ c.find.result
    c.find.ensures.ran rows (λ x b q k. search (rules, tests)) in
    grind (arith, c.map.ensures.cases, found)
