-- The book's equations, 01's formulas, and where they differ, over any numbers. Definitions only.
pub mod Numbers
pub mod Equations
pub mod Formulas
pub mod Departures
