use Rattle.sumlist.proofs.entries.Entries.read.Goals as goal

pub returns-in-Tags : goal.returns-in-Tags
returns-in-Tags g c = rw c.in-Tags.is (c.read_tag.ensures (g.M.MakesTag.limit c.in-Tags.field-1.now)
    (g.M.MakesTag.makes c.in-Tags.field-1.now))
