mod Mapped
mod Tallies
mod DrillLemmas
