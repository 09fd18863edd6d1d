pub mod OneFigure
pub mod WholeSet
pub mod Rewriting
pub mod Splitting
pub mod FigureByFigure
pub mod KeyByKey
pub mod Idle
pub mod Written
