-- A sum with its two limb counts exchanged. Definitions only.
use Rattle.reports.specs.declared.report.Sum.{Sum}

unfoldable pub exchanged_sum : Sum → Sum
exchanged_sum s = record { depth = s.depth; first = s.second; answer = s.answer; second = s.first }
