use Rattle.sipwhere.proofs.submitted_lines.became.Goals as goal

pub returns-in-Refused : goal.returns-in-Refused
returns-in-Refused g c = rw c.in-Refused.is (c.refused.ensures c.args.extent)
